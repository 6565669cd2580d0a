-- A check of each entry of a column, one after another.
use Rattle.std.specs.Prelude.{◌≡◌, ℕ, ◌<◌, Bool, true, false, List, length, Ok, Err, Result, slice_index_or}
use Rattle.std.specs.Borrow.{Bor}
use denote.Param.Members.{Shared}
use Rattle.refusals.specs.declared.Refusal.{Refusal}

-- the test answers so at the entry that stands at this place
pub record Answers {W T : Type 0} (g : Shared W (ℕ × (Bor T × Unit {0})) Bool) (wrong : W) (column : List T) (place : ℕ) (answer : Bool) : Type 0 where
  pub entry : Bor T
  pub stands : entry.now ≡ slice_index_or column place entry.now
  pub says : g.post wrong (place, (entry, tt)) answer

-- The first entry that is wrong is refused, with the refusal for its place.
pub data Checks {W R T : Type 0} (g : Shared W (ℕ × (Bor T × Unit {0})) Bool) (h : Shared R (ℕ × Unit {0}) Refusal) (column : List T) (wrong : W) (refusal : R) : Result (Unit {0}) Refusal → Type 0 where
  fine : {x : Unit {0}} → ((i : ℕ) → i < length column → Answers g wrong column i false) → Checks g h column wrong refusal (Ok x)
  refused : {e : Refusal} {n : ℕ} → ((i : ℕ) → i < n → Answers g wrong column i false) → n < length column → Answers g wrong column n true → h.post refusal (n, tt) e
      → Checks g h column wrong refusal (Err e)
