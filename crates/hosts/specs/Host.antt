-- What a host is asked about.
use Rattle.std.specs.Prelude.{ℕ, List}
use Rattle.tokens.specs.declared.input.Input.{Input}

-- The columns, by what they hold.
pub record Columns : Type 0 where
  pub kinds : List ℕ
  pub contextual : List ℕ
  pub joint : List ℕ
  pub editions : List ℕ

abbrev pub columns : Input → Columns
columns i = record { kinds = i.kinds.now; contextual = i.contextual.now; joint = i.joint.now; editions = i.editions.now }
