use Rattle.std.proofs.Common.{get_or, string_bytes, sym, ◌∙◌, arith}
use Rattle.event_log.specs.declared.item.Item.TheVariants.{Enter}
use Rattle.sinks.specs.declared.table.entry.Entry.{Entry}
use Rattle.reader.proofs.Trees.{depth_low, lines_more, lines_all}
use Rattle.reader.proofs.tree.tree.Goals as goal

-- what stands for an entry past the end
abbrev none : Entry
none = record { item = Enter 0; node = 0 }

pub loop-entry-preserved : goal.loop-entry-preserved
loop-entry-preserved c = (
  lines_more (string_bytes c.loop-entry.text) _ c.loop-entry.depth _ c.args.entries.now c.loop-entry.entry-index none c.loop-entry-test.true
      c.in_ok-push_line.ensures c.next_depth-depth.ensures ∙ c.loop-entry.invariant.0,
  omega (arith, c.next_depth-depth.ensures, depth_low c.loop-entry.depth (get_or c.args.entries.now c.loop-entry.entry-index none).item, c.loop-entry.invariant.1),
)

pub returns : goal.returns
returns c = sym (lines_all (string_bytes c.loop-entry.text) c.loop-entry.depth c.args.entries.now c.loop-entry.entry-index c.loop-entry-test.false) ∙ c.loop-entry.invariant.0
