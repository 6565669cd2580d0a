-- A walk: the marks before and after it.
use Rattle.std.proofs.Common.{◌≡◌, ℕ, ◌<◌, ◌≤◌, List, ◌++◌, length, take, drop, replicate, Err, Result, refl, ap, ◌∙◌, length-take-le}
use Rattle.event_log.specs.declared.event.Record.{Record}
use Rattle.event_log.specs.declared.item.Item.{Item}
use Rattle.refusals.specs.declared.Refusal.{Refusal}
use Rattle.refusals.specs.declared.Refusal.TheVariants.{MarksShort}
use Rattle.event_log.specs.Tell.{unused}
use Rattle.sinks.specs.Sink.{Heard}
use Rattle.sinks.specs.Walk.{cleared, used, TellsAll, Walks}
use Rattle.sinks.specs.Walk.Walks.{walked, no_marks}
use Rattle.sinks.proofs.Marks.{used_none, drop_cleared}

-- where the first n marks are filled with zeros
filled : (n : ℕ) (l : List ℕ) {xs : List ℕ} → n ≤ length l → xs ≡ replicate (length (take n l)) 0 → xs ++ drop n l ≡ cleared n l
filled n l h e = ap (λ (ys : List ℕ). ys ++ drop n l) (e ∙ ap (λ (m : ℕ). replicate m 0) (length-take-le n l h))

pub fresh : (rs : List Record) (l : List ℕ) {xs : List ℕ} → length rs ≤ length l → xs ≡ replicate (length (take (length rs) l)) 0
    → used (length rs) (xs ++ drop (length rs) l) ≡ unused rs
fresh rs l h e = ap (used (length rs)) (filled (length rs) l h e) ∙ used_none rs l

pub walks_of : {size : Item → ℕ} {qs rs : List Record} {l m : List ℕ} {s t : Heard} {r : Result (Unit {0}) Refusal} → qs ≡ rs → Walks size qs l m s t r → Walks size rs l m s t r
walks_of e h = rw e at h

module _ {size : Item → ℕ} (rs : List Record) (l : List ℕ) {s : Heard} where
  pub too_few : {e : Refusal} → length l < length rs → e ≡ MarksShort → Walks size rs l l s s (Err e)
  too_few lt p = no_marks lt p refl refl

  -- filled with zeros, told, which leaves the marks k, and filled with zeros again
  pub all_told : (k : List ℕ) {xs ys : List ℕ} {t : Heard} {r : Result (Unit {0}) Refusal} → length rs ≤ length l
      → xs ≡ replicate (length (take (length rs) l)) 0 → TellsAll size rs s t r → drop (length rs) k ≡ drop (length rs) (xs ++ drop (length rs) l)
      → length rs ≤ length k → ys ≡ replicate (length (take (length rs) k)) 0 → Walks size rs l (ys ++ drop (length rs) k) s t r
  all_told k {xs} {ys} le clear told others le' again = walked le told (filled (length rs) k le' again ∙ zeros)
    where
      zeros : cleared (length rs) k ≡ cleared (length rs) l
      zeros = ap (λ (zs : List ℕ). replicate (length rs) 0 ++ zs) (others ∙ ap (drop (length rs)) (filled (length rs) l le clear) ∙ drop_cleared (length rs) l)
