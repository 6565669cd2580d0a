-- What the calls that write into the log leave in it.
use Rattle.std.proofs.Common.{◌≡◌, ℕ, zero, suc, ◌+◌, ◌-◌, ◌<◌, ◌≤◌, true, false, ◌&&◌, eqb, List, [], ◌∷◌, ◌++◌, length, take, drop, set, replicate, Some, None, Ok, Err, Result, sym, refl, ap, ◌∙◌, add-one, arith, length-append, length-drop, length-set, length-take-le, drop-cons, get_or-set_same, drop-drop, drop-set-lt, drop_at}
use lib.ListN.{length-replicate, replicate-append-replicate}
use Rattle.std.proofs.lemmas.List.{drop-replicate}
use Rattle.std.proofs.lemmas.Bool.{and_parts, and_right, both_ways, eqb-true}
use Rattle.event_log.specs.declared.event.Record.{Record}
use Rattle.event_log.specs.declared.event.Record.TheVariants.{Start, Finish, Token, Error}
use Rattle.refusals.specs.declared.Refusal.{Refusal}
use Rattle.event_log.specs.declared.parser.Parser.{Parser}
use Rattle.event_log.specs.declared.records.Taken.{Taken}
use Rattle.event_log.specs.declared.records.Checkpoint.{Checkpoint}
use Rattle.event_log.specs.Sound.{is_blank, all_blank}
use Rattle.event_log.specs.Forest.{blank}
use Rattle.event_log.specs.Model.{of, blanked, filled, Concludes}
use Rattle.event_log.specs.Model.Concludes.{accepted}

-- how many records a parser has
pub counted : (p : Parser) → length (of p).recs ≡ p.count
counted p = length-take-le p.count p.records.now (omega (arith, p.within, p.roomy))

-- Past the count there are blanks

blank_is : (r : Record) → is_blank r ≡ true → r ≡ blank
blank_is (Start k None) h = ap (λ (x : ℕ). Start x None) (eqb-true k 0 (and_parts (eqb k 0) true h).0)
blank_is (Start k (Some n)) h = absurd (both_ways (eqb k 0 && false) (and_right (eqb k 0) false refl) h)
blank_is Finish h = absurd (both_ways false refl h)
blank_is (Token k w) h = absurd (both_ways false refl h)
blank_is (Error n k) h = absurd (both_ways false refl h)

all_blank_are : (rs : List Record) → all_blank rs ≡ true → rs ≡ replicate (length rs) blank
unfolding all_blank
all_blank_are [] h = refl
all_blank_are (r ∷ rs) h =
    let p = and_parts (is_blank r) (all_blank rs) h in
    λ j. blank_is r p.0 j ∷ all_blank_are rs p.1 j

are_all_blank : (n : ℕ) → all_blank (replicate n blank) ≡ true
unfolding all_blank
are_all_blank zero = refl
are_all_blank (suc n) = are_all_blank n

abbrev BlankFrom : List Record → ℕ → Type 0
BlankFrom l n = drop n l ≡ replicate (length l - n) blank

pub blanks_are : (l : List Record) (n : ℕ) → all_blank (drop n l) ≡ true → BlankFrom l n
blanks_are l n h = all_blank_are (drop n l) h ∙ ap (λ (k : ℕ). replicate k blank) (length-drop n l)

are_blanks : (l : List Record) (n : ℕ) → BlankFrom l n → all_blank (drop n l) ≡ true
are_blanks l n h = ap all_blank h ∙ are_all_blank (length l - n)

-- and past the next one too
pub blanks_after : (l : List Record) (n : ℕ) → all_blank (drop n l) ≡ true → all_blank (drop (n + 1) l) ≡ true
blanks_after l n h = are_blanks l (n + 1) (
    sym (drop-drop 1 n l) ∙ ap (drop 1) (blanks_are l n h) ∙ drop-replicate 1 (length l - n) blank
    ∙ ap (λ (k : ℕ). replicate k blank) (omega arith))

-- and taking the last record back leaves one more
pub blanks_pop : (l : List Record) (n : ℕ) → n < length l → all_blank (drop (n + 1) l) ≡ true → all_blank (drop n (set l n blank)) ≡ true
unfolding all_blank
blanks_pop l n lt h =
    ap all_blank (drop-cons (set l n blank) n blank (rw length-set lt) ∙ (λ j. get_or-set_same l n blank blank lt j ∷ drop-set-lt (suc n) l n blank (omega arith) j))
    ∙ rw add-one at h

pub blanks_filled : (l m : List Record) (n : ℕ) → n ≤ length l → m ≡ filled (take n l) (length l) → all_blank (drop n m) ≡ true
blanks_filled l m n h e = are_blanks m n (ap (drop n) e ∙ drop_at (take n l) _ n front ∙ ap (λ (k : ℕ). replicate k blank) more)
  where
    front : length (take n l) ≡ n
    front = length-take-le n l h

    more : length l - length (take n l) ≡ length m - n
    more = omega (arith, front, ap length e ∙ length-append (take n l) (replicate (length l - length (take n l)) blank), length-replicate (length l - length (take n l)) blank)

-- the records from one index on are blank, where those past the count were so already
pub put_back : (l : List Record) (from n : ℕ) {m : List Record} → m ≡ blanked l from n → from ≤ n → n ≤ length l → all_blank (drop n l) ≡ true → m ≡ filled (take from l) (length l)
put_back l from n e h k b =
    e ∙ ap (λ (xs : List Record). take from l ++ (replicate (n - from) blank ++ xs)) (blanks_are l n b)
    ∙ ap (λ (xs : List Record). take from l ++ xs) (replicate-append-replicate (n - from) (length l - n) blank ∙ ap (λ (k : ℕ). replicate k blank) more)
  where
    more : n - from + (length l - n) ≡ length l - length (take from l)
    more = omega (arith, length-take-le from l (omega arith))

-- The end of a call

pub concludes_ok : {c : Checkpoint} {l : Parser} {t : Taken} (r : Result (Unit {0}) Refusal) → ((e : Refusal) → r ≡ Err e → ⊥)
    → t.tokens ≡ l.place - c.place → t.clean ≡ l.clean → Concludes c l l r (Ok t)
concludes_ok (Ok x) h a b = accepted refl a b
concludes_ok (Err e) h a b = absurd (h e refl)

-- all blank from the start
pub all_blank_filled : {l : List Record} (i n : ℕ) → l ≡ replicate n blank → all_blank (drop i l) ≡ true
all_blank_filled i n e = ap (λ (xs : List Record). all_blank (drop i xs)) e ∙ ap all_blank (drop-replicate i n blank) ∙ are_all_blank (n - i)
