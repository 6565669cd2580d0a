-- Chains of forward parents: where they lead, and which starts they use.
use Rattle.std.proofs.Common.{◌≡◌, ℕ, zero, suc, ◌+◌, ◌-◌, ◌<◌, ◌≤◌, Bool, true, false, cond, List, [], ◌∷◌, ◌++◌, length, take, drop, set, Some, None, Ok, Err, Option, Result, IsErrAnd, sym, refl, ap, ◌∙◌, subst, append_assoc, append-nil, arith, length-drop, take-append-drop, get_or-drop, drop-cons, drop-drop, take-add}
use native.Mathlib.Nat.{suc_inj}
use Rattle.std.specs.Prelude.{IsSome}
use Rattle.std.specs.Option.{option_map}
use Rattle.std.proofs.lemmas.List.{get_or_past}
use Rattle.std.proofs.lemmas.Bool.{lt-ltb}
use Rattle.event_log.specs.declared.event.Record.{Record}
use Rattle.event_log.specs.declared.event.Record.TheVariants.{Start, Finish}
use Rattle.event_log.specs.declared.item.Item.{Item}
use Rattle.event_log.specs.declared.item.Item.TheVariants.{Enter as enter}
use Rattle.event_log.specs.Tell.{climb, use_up, enters, enter_unless_0}
use Rattle.sinks.specs.Walk.{forward_of, is_start, kind_of, at, ahead, parent_of, chain, mark_chain}
use Rattle.sinks.specs.declared.sink.Full.{Full}
use Rattle.sinks.specs.Sink.{Heard, Takes, Tells}
use Rattle.sinks.proofs.Taking.{tells_none, tells_one, tells_then, tells_exit, tells_as}
use Rattle.sinks.proofs.ByIndex.{marked_from, kinds_from, kinds_step, marks_step}

-- ---- where no start is

climb_none : (rs : List Record) (n : ℕ) → is_start (at rs n) ≡ false → climb (Some n) rs ≡ []
unfolding climb
climb_none [] n h = refl
climb_none (r ∷ rs) zero h = grind arith
climb_none (r ∷ rs) (suc n) h = climb_none rs n h

use_up_none : (rs : List Record) (n : ℕ) (us : List Bool) → length us ≡ length rs → is_start (at rs n) ≡ false → use_up (Some n) rs us ≡ us
unfolding use_up
use_up_none [] n us l h = refl
use_up_none (r ∷ rs) zero us l h = grind arith
use_up_none (r ∷ rs) (suc n) [] l h = absurd (omega arith)
use_up_none (r ∷ rs) (suc n) (u ∷ us) l h = ap (λ (vs : List Bool). u ∷ vs) (use_up_none rs n us (suc_inj l) h)

-- a start lies inside
start_within : (rs : List Record) (i : ℕ) → is_start (at rs i) ≡ true → i < length rs
start_within rs i h = grind (arith, get_or_past rs i Finish)

pub start_is : (r : Record) → is_start r ≡ true → r ≡ Start (kind_of r) (forward_of r)
start_is r h = grind arith

-- ---- where a start is

pub chain_is : (rs : List Record) (i : ℕ) → is_start (at rs i) ≡ true → chain rs i ≡ kind_of (at rs i) ∷ kinds_from rs (forward_of (at rs i)) i
unfolding climb
chain_is rs i h =
    ap (climb (Some 0)) (drop-cons rs i Finish (start_within rs i h) ∙ ap (λ (r : Record). r ∷ drop (suc i) rs) (start_is (at rs i) h))

pub chain_some : (rs : List Record) (i : ℕ) → is_start (at rs i) ≡ true → 0 < length (chain rs i)
chain_some rs i h = omega (arith, ap length (chain_is rs i h))

-- ---- from one start of a chain on

-- the next start of a chain
pub record Next (rs : List Record) (i j : ℕ) : Type 0 where
  pub further : i < j
  pub within : j < length rs
  pub chained : chain rs i ≡ kind_of (at rs i) ∷ chain rs j
  pub marked : (us : List Bool) → length us ≡ length rs → mark_chain rs i us ≡ mark_chain rs j (set us j true)

-- the end of a chain
pub record Top (rs : List Record) (i : ℕ) : Type 0 where
  pub chained : chain rs i ≡ kind_of (at rs i) ∷ []
  pub marked : (us : List Bool) → length us ≡ length rs → mark_chain rs i us ≡ us

abbrev pub Onward : List Record → ℕ → Option ℕ → Type 0
Onward rs i None = Top rs i
Onward rs i (Some j) = Next rs i j

-- records with a start at i, whose forward parent is fp
module _ (rs : List Record) (i : ℕ) (fp : Option ℕ) (h : is_start (at rs i) ≡ true) (forward : forward_of (at rs i) ≡ fp) where
  chain_on : chain rs i ≡ kind_of (at rs i) ∷ kinds_from rs fp i
  chain_on = chain_is rs i h ∙ ap (λ (f : Option ℕ). kind_of (at rs i) ∷ kinds_from rs f i) forward

  top : kinds_from rs fp i ≡ [] → ((us : List Bool) → length us ≡ length rs → marked_from rs fp i us ≡ us) → Top rs i
  top c m = record {
    chained = chain_on ∙ ap (λ (ks : List ℕ). kind_of (at rs i) ∷ ks) c;
    marked = λ us l. ap (λ (f : Option ℕ). marked_from rs f i us) forward ∙ m us l;
  }

onward_by : (rs : List Record) (i : ℕ) (fp : Option ℕ) → is_start (at rs i) ≡ true → forward_of (at rs i) ≡ fp → Onward rs i (ahead rs i fp)
unfolding climb use_up
onward_by rs i None h f = top rs i None h f refl (λ us l. take-append-drop (suc i) us)
onward_by rs i (Some zero) h f = top rs i (Some zero) h f refl (λ us l. take-append-drop (suc i) us)
onward_by rs i (Some (suc n)) h f = rw (lt-ltb 0 (suc n) (omega arith)) (go (is_start (at rs (i + suc n))) refl)
  where
    there : at (drop (suc i) rs) n ≡ at rs (i + suc n)
    there = get_or-drop (suc i) rs n Finish ∙ ap (at rs) (omega arith)

    go : (b : Bool) → is_start (at rs (i + suc n)) ≡ b → Onward rs i (cond b (Some (i + suc n)) None)
    go true e =
        let j : ℕ = i + suc n in
        let s : at rs j ≡ Start (kind_of (at rs j)) (forward_of (at rs j)) = start_is (at rs j) e in
        let w : j < length rs = start_within rs j e in
        record {
          further = omega arith;
          within = w;
          chained = chain_on rs i (Some (suc n)) h f ∙ ap (λ (ks : List ℕ). kind_of (at rs i) ∷ ks) (kinds_step rs i n j (kind_of (at rs j)) (forward_of (at rs j)) Finish refl w s ∙ sym (chain_is rs j e));
          marked = λ us l. ap (λ (o : Option ℕ). marked_from rs o i us) f ∙ marks_step rs i n j (kind_of (at rs j)) (forward_of (at rs j)) Finish refl w s us l;
        }
    go false e = top rs i (Some (suc n)) h f (climb_none (drop (suc i) rs) n (ap is_start there ∙ e))
        (λ us l. ap (λ (vs : List Bool). take (suc i) us ++ vs) (use_up_none (drop (suc i) rs) n (drop (suc i) us) (length-drop (suc i) us ∙ ap (λ (m : ℕ). m - suc i) l ∙ sym (length-drop (suc i) rs)) (ap is_start there ∙ e)) ∙ take-append-drop (suc i) us)

-- under another name of the records too
pub onward : (rs : List Record) (i : ℕ) {o : Option ℕ} {qs : List Record} → is_start (at rs i) ≡ true → rs ≡ qs → o ≡ parent_of rs i → Onward qs i o
onward rs i {o} h e p =
    let here : Onward rs i o = subst (Onward rs i) (sym p) (onward_by rs i (forward_of (at rs i)) h refl) in
    rw e at here

-- at a start that is n steps along some chain, which goes on: there is a next one
module _ (rs : List Record) (i n : ℕ) (ks : List ℕ) (h : is_start (at rs i) ≡ true) (e : chain rs i ≡ drop n ks) where
  pub is_on : {X : Type 0} (place : X → ℕ) (o : Option X) → n + 1 < length ks → option_map place o ≡ parent_of rs i → IsSome o
  is_on place (Some x) l p = refl
  is_on place None l p = absurd (let t : Top rs i = onward rs i h refl p in omega (arith, l, ap length (sym t.chained ∙ e), length-drop n ks))

  -- under another name of the records too
  pub along : {qs : List Record} {j : ℕ} → qs ≡ rs → Some j ≡ parent_of rs i → chain qs j ≡ drop (n + 1) ks
  along {j = j} q p =
      let next : Next rs i j = onward rs i h refl p in
      ap (λ (ps : List Record). chain ps j) q ∙ ap (drop 1) (sym next.chained ∙ e) ∙ drop-drop 1 n ks

-- ---- the code that enters a chain

entered : (k : ℕ) → (k ≡ 0 → ⊥) → enter k ∷ [] ≡ enters (k ∷ [])
unfolding enters enter_unless_0
entered k z = grind arith

not_entered : [] ≡ enters (0 ∷ [])
unfolding enters enter_unless_0
not_entered = refl

module _ (rs : List Record) (i : ℕ) {k : ℕ} {fp : Option ℕ} (e : at rs i ≡ Start k fp) where
  first_start : take 1 (chain rs i) ≡ k ∷ []
  first_start = ap (take 1) (chain_is rs i (ap is_start e)) ∙ ap (λ (r : Record). kind_of r ∷ []) e

  pub first_entered : {size : Item → ℕ} {s t : Heard} {r : Result (Unit {0}) Full} → (k ≡ 0 → ⊥) → Takes size (enter k) s t r → Tells size (enters (take 1 (chain rs i))) s t r
  first_entered z put = tells_as (entered k z ∙ ap enters (sym first_start)) (tells_one put)

  pub first_abandoned : {size : Item → ℕ} {s : Heard} → k ≡ 0 → Tells size (enters (take 1 (chain rs i))) s s (Ok tt)
  first_abandoned z = tells_as (not_entered ∙ ap enters (sym (first_start ∙ ap (λ (n : ℕ). n ∷ []) z))) tells_none

-- what lies further along is entered first
enters_append : (ks js : List ℕ) → enters (ks ++ js) ≡ enters js ++ enters ks
unfolding enters
enters_append [] js = sym (append-nil (enters js))
enters_append (k ∷ ks) js = ap (λ (is : List Item). is ++ enter_unless_0 k) (enters_append ks js) ∙ append_assoc (enters js) (enters ks) (enter_unless_0 k)

module _ (ks js : List ℕ) (m n : ℕ) (le : m ≤ n) (far_is : js ≡ drop m ks) where
  halves : enters (take (n - m) js) ++ enters (take m ks) ≡ enters (take n ks)
  halves =
      sym (enters_append (take m ks) (take (n - m) js))
      ∙ ap enters (ap (λ (is : List ℕ). take m ks ++ take (n - m) is) far_is ∙ sym (take-add m (n - m) ks) ∙ ap (λ (k : ℕ). take k ks) (omega arith))

  pub both_halves : {size : Item → ℕ} {s t u : Heard} {a : Unit {0}} {r : Result (Unit {0}) Full}
      → Tells size (enters (take (n - m) js)) s t (Ok a) → Tells size (enters (take m ks)) t u r → Tells size (enters (take n ks)) s u r
  both_halves far near = tells_as halves (tells_then far near)

  pub far_half : {size : Item → ℕ} {s t : Heard} {e : Full} {r : Result (Unit {0}) Full}
      → Tells size (enters (take (n - m) js)) s t (Err e) → IsErrAnd r (λ f. f ≡ e) → Tells size (enters (take n ks)) s t r
  far_half far exit = tells_as halves (tells_exit (enters (take m ks)) far _ exit)
