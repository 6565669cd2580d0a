-- What records tell, one by one and all together.
use Rattle.std.proofs.Common.{◌≡◌, ℕ, suc, ◌+◌, ◌-◌, ◌<◌, ◌≤◌, Bool, false, List, [], ◌∷◌, ◌++◌, length, get_or, take, drop, Some, Ok, Err, Option, Result, sym, refl, ap, ◌∙◌, append_assoc, append-nil, add-one, arith, length-append}
use lib.Seq.{append_snoc}
use Rattle.std.specs.Prelude.{slice_get, not, is_ok, true, MatchResult, IsErrAnd}
use Rattle.std.proofs.lemmas.Option.{slice_get_within, get_or_from_slice_get}
use Rattle.std.proofs.lemmas.List.{take_all}
use Rattle.std.proofs.lemmas.Bool.{lt-ltb, le-ltb, eq-eqb, ne_eqb, both_ways}
use Rattle.event_log.specs.declared.event.Record.{Record}
use Rattle.event_log.specs.declared.event.Record.TheVariants.{Start, Finish}
use Rattle.event_log.specs.declared.item.Item.{Item}
use Rattle.refusals.specs.declared.Refusal.{Refusal}
use Rattle.refusals.specs.declared.Refusal.TheVariants.{SinkFull}
use Rattle.event_log.specs.Tell.{enters, tell_each, joined, unused, tell_from, tell, teller}
use Rattle.sinks.specs.declared.sink.Full.{Full}
use Rattle.sinks.specs.Sink.{Heard, Takes, fitting, Tells}
use Rattle.sinks.specs.Sink.Tells.{told, full}
use Rattle.sinks.specs.Walk.{is_used, used, forward_of, kind_of, is_start, at, chain, mark_chain, each_from, each, TellsRecord, TellsAll}
use Rattle.sinks.specs.Walk.TellsAll.{all, part}
use Rattle.sinks.proofs.ByIndex.{kinds_from, marked_from, alone, each_alone, each_used, each_start, each_none}
use Rattle.sinks.proofs.Chains.{chain_is}
use Rattle.sinks.proofs.Marks.{length_used, used_at}
use Rattle.sinks.proofs.Taking.{tells_none, tells_one, tells_then, tells_stop, tells_as}

-- ---- one record

pub record_at : (rs : List Record) (i : ℕ) {r : Record} → slice_get rs i ≡ Some r → at rs i ≡ r
record_at rs i {r} h = get_or_from_slice_get rs i r Finish h

module _ (rs : List Record) (ms : List ℕ) (i : ℕ) (marked : length rs ≤ length ms) where
  abbrev us : List Bool
  us = used (length rs) ms

  long : length us ≡ length rs
  long = length_used (length rs) ms marked

  mark_at : {k : ℕ} {fp : Option ℕ} → slice_get rs i ≡ Some (Start k fp) → get_or us i false ≡ is_used (get_or ms i 0)
  mark_at {k} {fp} h = used_at (length rs) ms i (slice_get_within rs i (Start k fp) h) marked

  pub alone_told : {size : Item → ℕ} {s t : Heard} {r : Record} {x : Item} {a : Result (Unit {0}) Full}
      → slice_get rs i ≡ Some r → alone r ≡ Some x → Takes size x s t a → TellsRecord size rs i ms ms s t a
  alone_told {r = r} {x = x} h e put = record { told = x ∷ []; by_rule = each_alone rs us i long r x h e; tells = tells_one put; others = refl }

  pub used_told : {size : Item → ℕ} {s : Heard} {k : ℕ} {fp : Option ℕ}
      → slice_get rs i ≡ Some (Start k fp) → (get_or ms i 0 ≡ 0 → ⊥) → TellsRecord size rs i ms ms s s (Ok tt)
  used_told {k = k} {fp = fp} h m =
      record { told = []; by_rule = each_used rs us i long k fp h (mark_at h ∙ ap not (ne_eqb _ _ m)); tells = tells_none; others = refl }

  -- a start that begins a chain
  pub chain_told : {size : Item → ℕ} {s t : Heard} {k n : ℕ} {fp : Option ℕ} {ns : List ℕ} {a : Result (Unit {0}) Full}
      → slice_get rs i ≡ Some (Start k fp) → get_or ms i 0 ≡ 0
      → n ≡ length (chain rs i) → used (length rs) ns ≡ mark_chain rs i us → drop (length rs) ns ≡ drop (length rs) ms
      → Tells size (enters (take n (chain rs i))) s t a → TellsRecord size rs i ms ns s t a
  chain_told {k = k} {n} {fp} {ns} h m c marks others tells = record { told = enters (take n (chain rs i)); by_rule = rule; tells = tells; others = others }
    where
      here : at rs i ≡ Start k fp
      here = record_at rs i h

      whole : k ∷ kinds_from rs fp i ≡ take n (chain rs i)
      whole =
          sym (chain_is rs i (ap is_start here) ∙ (λ j. kind_of (here j) ∷ kinds_from rs (forward_of (here j)) i))
          ∙ sym (take_all n (chain rs i) (omega arith))

      rule : each_from rs us i ≡ enters (take n (chain rs i)) ∷ each_from rs (used (length rs) ns) (suc i)
      rule =
          each_start rs us i long k fp h (mark_at h ∙ ap not (eq-eqb _ _ m))
          ∙ (λ j. enters (whole j) ∷ each_from rs (sym (marks ∙ λ j. marked_from rs (forward_of (here j)) i us) j) (suc i))

-- ---- all records together

joined_append : {A : Type 0} (xss yss : List (List A)) → joined (xss ++ yss) ≡ joined xss ++ joined yss
unfolding joined
joined_append [] yss = refl
joined_append (xs ∷ xss) yss = ap (λ zs. xs ++ zs) (joined_append xss yss) ∙ sym (append_assoc xs (joined xss) (joined yss))

joined_more : {A : Type 0} (xss : List (List A)) (ys : List A) → joined (xss ++ ys ∷ []) ≡ joined xss ++ ys
unfolding joined
joined_more xss ys = joined_append xss (ys ∷ []) ∙ ap (λ zs. joined xss ++ zs) (append-nil ys)

-- the list that an item is in
teller_at : {A : Type 0} (before : List (List A)) (now : List A) (after : List (List A)) (k : ℕ) → k < length now → teller (length (joined before) + k) (before ++ now ∷ after) ≡ length before
unfolding teller joined
teller_at [] now after k h = rw (lt-ltb (0 + k) (length now) (omega arith))
teller_at (xs ∷ before) now after k h =
    let n : ℕ = length (xs ++ joined before) + k in
    let past : length xs ≤ n = omega (arith, length-append xs (joined before)) in
    let left : n - length xs ≡ length (joined before) + k = omega (arith, length-append xs (joined before)) in
    rw (le-ltb n (length xs) past, left) (ap suc (teller_at before now after k h))

-- How far the records are told: those before this index tell all that was told so far, and the others what is left.
pub record SoFar (size : Item → ℕ) (rs : List Record) (i : ℕ) (marks marks' : List ℕ) (s t : Heard) : Type 0 where
  pub before : List (List Item)
  pub rest : each rs ≡ before ++ each_from rs (used (length rs) marks') i
  pub reached : length before ≡ i
  pub told : Tells size (joined before) s t (Ok tt)
  pub others : drop (length rs) marks' ≡ drop (length rs) marks

pub so_far_none : {size : Item → ℕ} {rs : List Record} {marks : List ℕ} {s : Heard} → used (length rs) marks ≡ unused rs → SoFar size rs 0 marks marks s s
unfolding joined
so_far_none {rs = rs} e = record { before = []; rest = ap (tell_each rs) (sym e); reached = refl; told = tells_none; others = refl }

so_far_more : {size : Item → ℕ} {rs : List Record} {i : ℕ} {marks ms ns : List ℕ} {s t u : Heard} {x : Unit {0}}
    → SoFar size rs i marks ms s t → TellsRecord size rs i ms ns t u (Ok x) → SoFar size rs (i + 1) marks ns s u
so_far_more {rs = rs} {i} {ns = ns} h r = record {
  before = h.before ++ r.told ∷ [];
  rest = h.rest ∙ ap (λ xs. h.before ++ xs) r.by_rule ∙ sym (append_snoc h.before r.told (each_from rs (used (length rs) ns) (suc i)))
      ∙ ap (λ (n : ℕ). (h.before ++ r.told ∷ []) ++ each_from rs (used (length rs) ns) n) (sym (add-one i));
  reached = length-append h.before (r.told ∷ []) ∙ omega (arith, h.reached);
  told = tells_as (sym (joined_more h.before r.told)) (tells_then h.told r.tells);
  others = r.others ∙ h.others;
}

pub so_far_all : {size : Item → ℕ} {rs : List Record} {i : ℕ} {marks ms : List ℕ} {s t : Heard} → SoFar size rs i marks ms s t → length rs ≤ i → TellsAll size rs s t (Ok tt)
unfolding tell_from
so_far_all {rs = rs} {i} {ms = ms} h le =
    all (tells_as (ap joined (sym (h.rest ∙ ap (λ xs. h.before ++ xs) (each_none rs (used (length rs) ms) i le) ∙ append-nil h.before))) h.told)

-- As much of some items as fits, after others that were told whole, is those and as much of the next ones as fits.
fits_after : {size : Item → ℕ} {xs ys zs : List Item} {s t u : Heard} {a : Unit {0}} {e f : Full}
    → Tells size xs s t (Ok a) → Tells size ys t u (Err e) → Tells size zs s u (Err f) → length (fitting size s.room zs) ≡ length xs + length (fitting size t.room ys)
fits_after {size} {xs} {ys} {zs} {s} {t} (told k i n) (full l j m) (full p q r) =
    let a = ap length i ∙ length-append s.items xs in
    let b = ap length j ∙ length-append t.items (fitting size t.room ys) in
    let c = ap length q ∙ length-append s.items (fitting size s.room zs) in
    omega arith

not_all : {size : Item → ℕ} {xs : List Item} {s t : Heard} {e : Full} → Tells size xs s t (Err e) → length (fitting size s.room xs) < length xs
not_all (full l i n) = l

-- A record that cannot be told whole.
so_far_stop : {size : Item → ℕ} {rs : List Record} {i : ℕ} {marks ms ns : List ℕ} {s t u : Heard} {e : Full} {f : Refusal}
    → SoFar size rs i marks ms s t → TellsRecord size rs i ms ns t u (Err e) → f ≡ SinkFull i → TellsAll size rs s u (Err f)
unfolding tell_from joined
so_far_stop {size} {rs} {i} {marks} {ms} {ns} {s} {t} {u} {e} h r p = part e whole (p ∙ ap SinkFull (sym place))
  where
    after : List (List Item)
    after = each_from rs (used (length rs) ns) (suc i)

    groups : each rs ≡ h.before ++ r.told ∷ after
    groups = h.rest ∙ ap (λ xs. h.before ++ xs) r.by_rule

    items : joined h.before ++ (r.told ++ joined after) ≡ tell rs
    items = sym (ap joined groups ∙ joined_append h.before (r.told ∷ after))

    whole : Tells size (tell rs) s u (Err e)
    whole = tells_as items (tells_then h.told (tells_stop (joined after) r.tells))

    place : teller (length (fitting size s.room (tell rs))) (each rs) ≡ i
    place =
        (λ j. teller (fits_after h.told r.tells whole j) (groups j))
        ∙ teller_at h.before r.told after (length (fitting size t.room r.told)) (not_all r.tells) ∙ h.reached

-- what the code makes of a record that was told, or was not
pub so_far_ok : {size : Item → ℕ} {rs : List Record} {i : ℕ} {marks ms ns : List ℕ} {s t u : Heard} {a : Result (Unit {0}) Full}
    → is_ok a ≡ true → SoFar size rs i marks ms s t → TellsRecord size rs i ms ns t u a → SoFar size rs (i + 1) marks ns s u
so_far_ok {a = Ok x} e h r = so_far_more h r
so_far_ok {a = Err f} e h r = absurd (both_ways false refl e)

pub so_far_err : {size : Item → ℕ} {rs : List Record} {i : ℕ} {marks ms ns : List ℕ} {s t u : Heard} {a : Result (Unit {0}) Full} {m b : Result (Unit {0}) Refusal} {f : Refusal} {P : Full → Refusal → Type 0}
    → ((e : Full) (x : Refusal) → P e x → x ≡ SinkFull i) → MatchResult a (λ x. m ≡ Ok x) (λ e. IsErrAnd m (P e)) → m ≡ Err f → IsErrAnd b (λ x. x ≡ f)
    → SoFar size rs i marks ms s t → TellsRecord size rs i ms ns t u a → TellsAll size rs s u b
so_far_err {a = Ok x} p c w q h r = absurd (let z : ◌≡◌ {A = ℕ} 0 1 = cc in omega arith)
so_far_err {i = i} {a = Err e} {b = Ok x} p c w q h r = absurd q
so_far_err {i = i} {a = Err e} {b = Err x} {f} {P} p c w q h r = so_far_stop h r (q ∙ p e f (rw w at c))
