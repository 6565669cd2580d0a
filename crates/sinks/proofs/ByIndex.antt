-- What records tell, for code that goes over them by index and keeps marks: what is left to tell from an index on, and one step along
-- a chain of forward parents.
use Rattle.std.proofs.Common.{◌≡◌, ℕ, zero, suc, ◌+◌, ◌<◌, ◌≤◌, Bool, true, false, List, [], ◌∷◌, ◌++◌, length, get_or, take, drop, set, Some, None, Option, sym, ap, ◌∙◌, ap₂, append_assoc, le_of_suc-le-suc, not-suc-le-zero, arith, length-drop, drop_of_length-le, length-take-le, get_or-drop, drop-cons, drop-drop, take-suc-set, drop-set-lt, take-add, drop_at}
use native.Mathlib.Nat.{suc_inj}
use Rattle.std.specs.Prelude.{slice_get}
use Rattle.std.proofs.lemmas.Option.{slice_get_within, get_or_from_slice_get}
use lib.Seq.{append_snoc}
use Rattle.event_log.specs.declared.event.Record.{Record}
use Rattle.event_log.specs.declared.event.Record.TheVariants.{Start, Finish, Token, Error}
use Rattle.event_log.specs.declared.item.Item.{Item}
use Rattle.event_log.specs.declared.item.Item.TheVariants.{Leave as leave, Token as told_token, Error as told_error}
use Rattle.sinks.specs.Walk.{each_from}
use Rattle.event_log.specs.Tell.{nearer, climb, use_up, enters, tell_each}

-- the marks, with the chain used that goes on from the start at index i by this forward parent
abbrev pub marked_from : List Record → Option ℕ → ℕ → List Bool → List Bool
marked_from rs fp i us = take (suc i) us ++ use_up (nearer fp) (drop (suc i) rs) (drop (suc i) us)

-- the kinds of that chain
abbrev pub kinds_from : List Record → Option ℕ → ℕ → List ℕ
kinds_from rs fp i = climb (nearer fp) (drop (suc i) rs)

-- ---- the record at index i

-- the item that this record tells, whatever comes before it, where it is no start
abbrev pub alone : Record → Option Item
alone (Start k fp) = None
alone Finish = Some leave
alone (Token k w) = Some (told_token k w)
alone (Error n k) = Some (told_error n k)

module _ (rs : List Record) (us : List Bool) (i : ℕ) (l : length us ≡ length rs) where
  opened : (r : Record) → slice_get rs i ≡ Some r → each_from rs us i ≡ tell_each (r ∷ drop (suc i) rs) (get_or us i false ∷ drop (suc i) us)
  opened r h =
      let lt : i < length rs = slice_get_within rs i r h in
      ap₂ tell_each (drop-cons rs i r lt ∙ ap (λ x. x ∷ drop (suc i) rs) (get_or_from_slice_get rs i r r h)) (drop-cons us i false (omega arith))

  pub each_alone : (r : Record) (x : Item) → slice_get rs i ≡ Some r → alone r ≡ Some x → each_from rs us i ≡ (x ∷ []) ∷ each_from rs us (suc i)
  unfolding tell_each
  each_alone r x h e = grind (arith, opened r h)

  pub each_used : (k : ℕ) (fp : Option ℕ) → slice_get rs i ≡ Some (Start k fp) → get_or us i false ≡ true → each_from rs us i ≡ [] ∷ each_from rs us (suc i)
  unfolding tell_each
  each_used k fp h u = grind (arith, opened (Start k fp) h)

  pub each_start : (k : ℕ) (fp : Option ℕ) → slice_get rs i ≡ Some (Start k fp) → get_or us i false ≡ false
      → each_from rs us i ≡ enters (k ∷ kinds_from rs fp i) ∷ each_from rs (marked_from rs fp i us) (suc i)
  unfolding tell_each
  each_start k fp h u =
      let lt : i < length rs = slice_get_within rs i (Start k fp) h in
      let vs : List Bool = use_up (nearer fp) (drop (suc i) rs) (drop (suc i) us) in
      let n : length (take (suc i) us) ≡ suc i = length-take-le (suc i) us (omega arith) in
      opened (Start k fp) h ∙ ap (λ v. tell_each (Start k fp ∷ drop (suc i) rs) (v ∷ drop (suc i) us)) u
      ∙ ap (λ ws. enters (k ∷ kinds_from rs fp i) ∷ tell_each (drop (suc i) rs) ws) (sym (drop_at (take (suc i) us) vs (suc i) n))

-- at the end nothing is left
pub each_none : (rs : List Record) (us : List Bool) (i : ℕ) → length rs ≤ i → each_from rs us i ≡ []
unfolding tell_each
each_none rs us i h = ap (λ xs. tell_each xs (drop i us)) (drop_of_length-le rs h)

-- ---- the walk along a chain

climb_start : (rs : List Record) (n k : ℕ) (fp : Option ℕ) (d : Record) → n < length rs → get_or rs n d ≡ Start k fp → climb (Some n) rs ≡ k ∷ climb (nearer fp) (drop (suc n) rs)
unfolding climb
climb_start [] n k fp d h e = absurd (not-suc-le-zero h)
climb_start (x ∷ rs) zero k fp d h e = ap (λ r. climb (Some 0) (r ∷ rs)) e
climb_start (x ∷ rs) (suc n) k fp d h e = climb_start rs n k fp d (le_of_suc-le-suc h) e

use_up_start : (rs : List Record) (us : List Bool) (n k : ℕ) (fp : Option ℕ) (d : Record) → n < length rs → length us ≡ length rs → get_or rs n d ≡ Start k fp
    → use_up (Some n) rs us ≡ take n us ++ (true ∷ use_up (nearer fp) (drop (suc n) rs) (drop (suc n) us))
unfolding use_up
use_up_start [] us n k fp d h l e = absurd (not-suc-le-zero h)
use_up_start (x ∷ rs) [] n k fp d h l e = absurd (omega arith)
use_up_start (x ∷ rs) (u ∷ us) zero k fp d h l e = ap (λ r. use_up (Some 0) (r ∷ rs) (u ∷ us)) e
use_up_start (x ∷ rs) (u ∷ us) (suc n) k fp d h l e = ap (λ vs. u ∷ vs) (use_up_start rs us n k fp d (le_of_suc-le-suc h) (suc_inj l) e)

-- A forward parent of n + 1 leads from index i to index j, where another start stands. The walk goes on there, with the start at j marked.
module _ (rs : List Record) (i n j k : ℕ) (fp : Option ℕ) (d : Record) (at : j ≡ i + suc n) (h : j < length rs) (e : get_or rs j d ≡ Start k fp) where
  ahead : suc i + n ≡ j
  ahead = omega arith

  there : n < length (drop (suc i) rs)
  there = rw (length-drop (suc i) rs) (omega arith)

  start_there : get_or (drop (suc i) rs) n d ≡ Start k fp
  start_there = get_or-drop (suc i) rs n d ∙ ap (λ x. get_or rs x d) ahead ∙ e

  -- what lies behind it
  behind : {X : Type 0} (xs : List X) → drop (suc n) (drop (suc i) xs) ≡ drop (suc j) xs
  behind xs = drop-drop (suc n) (suc i) xs ∙ ap (λ x. drop x xs) (let a : suc i + suc n ≡ suc j = omega arith in a)

  pub kinds_step : kinds_from rs (Some (suc n)) i ≡ k ∷ kinds_from rs fp j
  kinds_step = climb_start (drop (suc i) rs) n k fp d there start_there ∙ ap (λ xs. k ∷ climb (nearer fp) xs) (behind rs)

  pub marks_step : (us : List Bool) → length us ≡ length rs → marked_from rs (Some (suc n)) i us ≡ marked_from rs fp j (set us j true)
  marks_step us l =
      let vs : List Bool = use_up (nearer fp) (drop (suc j) rs) (drop (suc j) us) in
      let m : length (drop (suc i) us) ≡ length (drop (suc i) rs) = simp length-drop (omega arith) in
      let left : marked_from rs (Some (suc n)) i us ≡ take (suc i) us ++ (take n (drop (suc i) us) ++ (true ∷ vs)) =
      ap (λ xs. take (suc i) us ++ xs) (use_up_start (drop (suc i) rs) (drop (suc i) us) n k fp d there m start_there
      ∙ ap₂ (λ xs ys. take n (drop (suc i) us) ++ (true ∷ use_up (nearer fp) xs ys)) (behind rs) (behind us)) in
      let front : take (suc i) us ++ take n (drop (suc i) us) ≡ take j us = sym (take-add (suc i) n us) ∙ ap (λ x. take x us) ahead in
      let right : marked_from rs fp j (set us j true) ≡ (take j us ++ (true ∷ [])) ++ vs =
      ap₂ (λ xs ys. xs ++ use_up (nearer fp) (drop (suc j) rs) ys) (take-suc-set us j true (omega arith)) (drop-set-lt (suc j) us j true (omega arith)) in
      left ∙ sym (append_assoc (take (suc i) us) (take n (drop (suc i) us)) (true ∷ vs)) ∙ ap (λ xs. xs ++ (true ∷ vs)) front
      ∙ sym (append_snoc (take j us) true vs) ∙ sym right
