use Rattle.std.proofs.Common.{string_bytes}
use Rattle.reader.proofs.Trees.{indent_none, indent_more}
use Rattle.reader.proofs.tree.push_indent.Goals as goal

pub loop-init : goal.loop-init
loop-init c = indent_none (string_bytes c.args.text.now)

pub loop-preserved : goal.loop-preserved
loop-preserved c = indent_more (string_bytes c.args.text.now) (string_bytes c.loop.text) _ c.loop.counter c.loop.invariant c.in_ok-push_str.ensures.bytes
