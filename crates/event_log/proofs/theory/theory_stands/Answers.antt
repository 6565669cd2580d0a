use Rattle.std.proofs.Common.{arith}
use Rattle.event_log.proofs.theory.theory_stands.Goals as goal
use Rattle.event_log.proofs.Laws.{tokens_law, kinds_law, bounds_law, telling_law, goes_on_law, balance_law, turns_law, wraps_law}

pub returns : goal.returns
returns g c = record {
  tokens = tokens_law g.G.Grammar.program;
  kinds = kinds_law g.G.Grammar.program;
  bounds = bounds_law g.G.Grammar.program;
  telling = telling_law;
  onward = goes_on_law g.G.Grammar.program;
  balance = balance_law g.G.Grammar.program;
  turns = turns_law _ g.L.Loop.turn (omega arith);
  wraps = wraps_law _ g.W.Wrapping.test g.W.Wrapping.body (omega arith);
}
