use Rattle.std.proofs.Common.{◌≡◌, length, refl, arith, rules}
use Rattle.tokens.specs.Words.{in_words}
use Rattle.tokens.proofs.Members.{none_high}
use Rattle.tokens.proofs.token_set.TokenSet.contains.Goals as goal

pub returns-then-kind-gt-SHEBANG : goal.returns-then-kind-gt-SHEBANG
returns-then-kind-gt-SHEBANG c =
    let s = c.args.self.now in
    let three : length s.words ≡ 3 = search rules in
    record { member = none_high s.words three s.tokens _ c.if-kind-gt-SHEBANG.true; token = λ _. refl }

pub returns : goal.returns
unfolding in_words
returns c = record { member = c.has_bit.ensures; token = λ h. absurd (omega arith) }
