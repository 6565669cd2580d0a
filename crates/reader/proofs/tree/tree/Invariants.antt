use Rattle.std.proofs.Common.{◌≡◌, ◌≤◌, ◌++◌, drop, string_bytes}
use Rattle.sinks.specs.Nodes.{items_in}
use Rattle.reader.specs.Tree.{lines, tree}
use Rattle.reader.proofs.tree.tree.Given as goal

-- with the lines of the entries that are left, the text is the whole tree
abbrev pub invariant-loop-entry : goal.invariant-loop-entry
invariant-loop-entry l =
    (string_bytes l.text ++ lines l.depth (items_in (drop l.entry-index l.entries)) ≡ tree (items_in l.entries))
    × (l.depth ≤ l.entry-index)
