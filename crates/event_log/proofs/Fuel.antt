-- A loop that has come to an answer or a refusal comes to the same with more turns allowed.
use Rattle.std.proofs.Common.{◌≡◌, ℕ, zero, suc, ◌+◌, ◌≤◌, Bool, true, false, sym, refl, ap, ◌∙◌, ⊎_elim, subst, le_of_suc-le-suc, not-suc-le-zero}
use Rattle.std.proofs.lemmas.Bool.{cases_Bool}
use Rattle.event_log.specs.Forest.{Node, Forest, wides}
use Rattle.event_log.specs.Forest.Forest.{nil}
use Rattle.event_log.specs.Program.{Turn, Out, Held, size, grow, next, turned, spin, on_node, wind}
use Rattle.event_log.specs.Program.Turn.{again, done}
use Rattle.event_log.specs.Program.Out.{ok, no, never}
use Rattle.event_log.specs.Settling.{Settled}

-- what comes to something settles
pub settled_ends : {A : Type 0} (o : Out A) → (o ≡ never → ⊥) → Settled o
settled_ends (ok f a) h = tt
settled_ends (no r) h = tt
settled_ends never h = h refl

-- ---- `spin`

pub next_eq : {A B : Type 0} (o : Out A) (k l : A → ℕ → ℕ → Out B) (c i : ℕ) → ((f : Forest) (a : A) → o ≡ ok f a → k a (c + size f) (i + wides f) ≡ l a (c + size f) (i + wides f)) → next o k c i ≡ next o l c i
unfolding next
next_eq (ok f a) k l c i h = ap (grow f) (h f a refl)
next_eq (no r) k l c i h = refl
next_eq never k l c i h = refl

pub settled_grow : {B : Type 0} (f : Forest) (o : Out B) → Settled (grow f o) ≡ Settled o
unfolding grow
settled_grow f (ok g b) = refl
settled_grow f (no r) = refl
settled_grow f never = refl

next_same : {A B : Type 0} (o : Out A) (k l : A → ℕ → ℕ → Out B) (c i : ℕ)
    → ((a : A) (d j : ℕ) → Settled (k a d j) → l a d j ≡ k a d j) → Settled (next o k c i) → next o l c i ≡ next o k c i
unfolding next
next_same o k l c i same h = next_eq o l k c i (λ f a e. same a (c + size f) (i + wides f) (rw (settled_grow f (k a (c + size f) (i + wides f))) at (rw e at h)))

turned_same : {S : Type 0} (t : Turn S) (k l : S → ℕ → ℕ → Out S) (c i : ℕ)
    → ((s : S) (d j : ℕ) → Settled (k s d j) → l s d j ≡ k s d j) → Settled (turned t k c i) → turned t l c i ≡ turned t k c i
unfolding turned
turned_same (again s) k l c i same h = same s c i h
turned_same (done s) k l c i same h = refl

pub spin_more : {S : Type 0} (n m : ℕ) (f : S → ℕ → ℕ → Out (Turn S)) (s : S) (c i : ℕ) → n ≤ m → Settled (spin n f s c i) → spin m f s c i ≡ spin n f s c i
unfolding spin
spin_more zero m f s c i l h = absurd h
spin_more (suc n) zero f s c i l h = absurd (not-suc-le-zero l)
spin_more (suc n) (suc m) f s c i l h =
    next_same (f s c i) (λ t. turned t (spin n f)) (λ t. turned t (spin m f)) c i
    (λ t d j. turned_same t (spin n f) (spin m f) d j (λ x b a. spin_more n m f x b a (le_of_suc-le-suc l)))
    h

-- to an answer or a refusal by name
pub spin_ends : {S : Type 0} (n m : ℕ) (f : S → ℕ → ℕ → Out (Turn S)) (s : S) (c i : ℕ) (o : Out S) → n ≤ m → Settled o → spin n f s c i ≡ o → spin m f s c i ≡ o
spin_ends n m f s c i o l h e = spin_more n m f s c i l (subst Settled (sym e) h) ∙ e

-- ---- `wind`

pub on_node_eq : {A B : Type 0} (o : Out (Held A)) (k l : A → Node → Out (Held B)) → ((f : Forest) (h : Held A) → o ≡ ok f h → k h.answer h.held ≡ l h.answer h.held) → on_node o k ≡ on_node o l
unfolding on_node
on_node_eq (ok f h) k l s = s f h refl
on_node_eq (no r) k l s = refl
on_node_eq never k l s = refl

on_node_same : {A B : Type 0} (o : Out (Held A)) (k l : A → Node → Out (Held B)) → ((a : A) (n : Node) → Settled (k a n) → l a n ≡ k a n) → Settled (on_node o k) → on_node o l ≡ on_node o k
unfolding on_node
on_node_same o k l same h = on_node_eq o l k (λ f x e. same x.answer x.held (rw e at h))

pub wind_stop : (m : ℕ) (t : Node → Bool) (f : Node → Out (Held ℕ)) (n : Node) → t n ≡ false → wind (suc m) t f n ≡ ok nil (record { held = n; answer = tt })
unfolding wind
wind_stop m t f n p = rw (wind, p) refl

pub wind_go : (m : ℕ) (t : Node → Bool) (f : Node → Out (Held ℕ)) (n : Node) → t n ≡ true → wind (suc m) t f n ≡ on_node (f n) (λ _. wind m t f)
unfolding wind
wind_go m t f n p = rw (wind, p) refl

pub wind_more : (n m : ℕ) (t : Node → Bool) (f : Node → Out (Held ℕ)) (x : Node) → n ≤ m → Settled (wind n t f x) → wind m t f x ≡ wind n t f x
unfolding wind
wind_more zero m t f x l h = absurd h
wind_more (suc n) zero t f x l h = absurd (not-suc-le-zero l)
wind_more (suc n) (suc m) t f x l h =
    ⊎_elim (λ u.
    wind_go m t f x u
    ∙ on_node_same (f x) (λ _. wind n t f) (λ _. wind m t f) (λ _ y. wind_more n m t f y (le_of_suc-le-suc l)) (rw (wind_go n t f x u) at h)
    ∙ sym (wind_go n t f x u))
    (λ u. wind_stop m t f x u ∙ sym (wind_stop n t f x u))
    (cases_Bool (t x))

pub wind_ends : (n m : ℕ) (t : Node → Bool) (f : Node → Out (Held ℕ)) (x : Node) (o : Out (Held (Unit {0}))) → n ≤ m → Settled o → wind n t f x ≡ o → wind m t f x ≡ o
wind_ends n m t f x o l h e = wind_more n m t f x l (subst Settled (sym e) h) ∙ e
