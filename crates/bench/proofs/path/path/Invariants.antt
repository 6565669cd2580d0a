use Rattle.std.proofs.Common.{◌≡◌, ◌++◌, vec_items}
use Rattle.bench.specs.Path.{onward, path}
use Rattle.bench.proofs.path.path.Given as goal

-- with the paths that are still to come, the records are the whole path
abbrev pub invariant-loop-left : goal.invariant-loop-left
invariant-loop-left l = vec_items l.records ++ onward l.left ≡ path l.more
