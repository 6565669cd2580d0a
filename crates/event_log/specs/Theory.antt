-- The theory: what holds of every grammar, whatever its programs are. A grammar is given by what each of its calls runs; nothing is asked of it.
-- Each statement stands in the contract of `theory_stands`.
use Rattle.std.specs.Prelude.{◌≡◌, ℕ, ◌+◌, ◌-◌, ◌<◌, ◌≤◌, Bool, true, List, [], ◌∷◌, ◌++◌, map, length}
use Rattle.refusals.specs.declared.Refusal.{Refusal}
use Rattle.event_log.specs.declared.item.Item.{Item}
use Rattle.event_log.specs.declared.item.Item.TheVariants.{Enter as enter, Leave as leave, Token as told_token, Error as told_error}
use Rattle.event_log.specs.Forest.{Node, Forest, flats, wides, wide_node}
use Rattle.event_log.specs.Forest.Tree.{token, error, whole, gone}
use Rattle.event_log.specs.Forest.Node.{node, wrap}
use Rattle.event_log.specs.Forest.Forest.{nil, cons}
use Rattle.event_log.specs.Program.{Env, Prog, Turn, Out, Held, size, spin, wind, run, precede}
use Rattle.event_log.specs.Program.Prog.{repeat}
use Rattle.event_log.specs.Program.Wraps.{around, many}
use Rattle.event_log.specs.Program.Turn.{again}
use Rattle.event_log.specs.Program.Out.{ok, no}
use Rattle.event_log.specs.Settling.{Settled}
use Rattle.event_log.specs.Told.{told, Kinds, KindsNode}
use Rattle.event_log.specs.Tell.{tell}
use Rattle.event_log.specs.Balance.{Balanced}
use Rattle.event_log.specs.Spelling.{Spelled, width, holding, Tokens}
use Rattle.event_log.specs.Reading.{Call, Reading, begun, called, after}
use Rattle.event_log.specs.Reading.Call.{call}

-- A call that comes to a forest is accepted, from so many records and a place; one that comes to a refusal is refused.
abbrev pub Accepted : Call → Env → ℕ → ℕ → Forest → Type 0
Accepted (call {A = A} m) e c i f = (a : A) × (run m e c i ≡ ok f a)

abbrev pub Refused : Call → Env → ℕ → ℕ → Refusal → Type 0
Refused (call m) e c i r = run m e c i ≡ no r

-- a reading after any calls, accepted and refused ones
abbrev pub after_any : {C : Type 0} → (C → Call) → Env → List C → Reading
after_any program e ms = after e (map program ms) begun

-- ---- 1. Tokens

-- The tokens among these items spell the raw tokens from one place up to another.
pub record Spells (e : Env) (from to : ℕ) (items : List Item) : Type 0 where
  -- in order, and each as many as it says
  pub spelled : Spelled e from items
  pub up_to : from + width items ≡ to
  -- each raw token between the places lies in exactly one token, and every other one in none
  pub once : (p : ℕ) → from ≤ p → p < to → holding p items from ≡ 1
  pub none_before : (p : ℕ) → p < from → holding p items from ≡ 0
  pub none_behind : (p : ℕ) → to ≤ p → holding p items from ≡ 0

pub record TokensLaw {C : Type 0} (program : C → Call) : Type 0 where
  -- an accepted call's tokens spell the raw tokens from the place where it began up to where it ends
  pub of_call : (m : C) (e : Env) (c i : ℕ) (f : Forest) → Accepted (program m) e c i f → Spells e i (i + wides f) (told f)
  -- those of any calls together spell them from the first one up to the place reached
  pub of_calls : (e : Env) (ms : List C) → Tokens e (after_any program e ms).place (tell (after_any program e ms).log)

-- ---- 2. Kinds

-- No node that an accepted call completes has the kind TOMBSTONE.
abbrev pub KindsLaw : {C : Type 0} → (C → Call) → Type 0
KindsLaw {C} program = (m : C) (e : Env) (c i : ℕ) (f : Forest) → Accepted (program m) e c i f → Kinds f

-- ---- 3. Place and count

-- An accepted call adds the records of its forest, and moves on over its tokens: within the tokens and the room, if it began there.
pub record Moved (e : Env) (r s : Reading) (f : Forest) : Type 0 where
  pub records : s.log ≡ r.log ++ flats f
  pub place : s.place ≡ r.place + wides f
  pub count : length s.log ≡ length r.log + size f
  pub inside : r.place ≤ length e.kinds → s.place ≤ length e.kinds
  pub fits : length r.log ≤ e.room → length s.log ≤ e.room

pub record BoundsLaw {C : Type 0} (program : C → Call) : Type 0 where
  pub accepted : (m : C) (e : Env) (r : Reading) (f : Forest) → Accepted (program m) e (length r.log) r.place f → Moved e r (called e (program m) r) f
  pub refused : (m : C) (e : Env) (r : Reading) (x : Refusal) → Refused (program m) e (length r.log) r.place x → called e (program m) r ≡ r
  -- so after any calls place and count are within the tokens and the room
  pub inside : (e : Env) (ms : List C) → (after_any program e ms).place ≤ length e.kinds
  pub fits : (e : Env) (ms : List C) → length (after_any program e ms).log ≤ e.room

-- ---- 4. Telling

-- what the records of a forest tell
abbrev pub tells : Forest → List Item
tells f = tell (flats f)

-- The records of a forest in which each node has a kind tell the forest.
pub record TellingLaw : Type 0 where
  pub nothing : tells nil ≡ []
  pub of_token : (k w : ℕ) (f : Forest) → Kinds f → tells (cons (token k w) f) ≡ told_token k w ∷ tells f
  pub of_error : (n k : ℕ) (f : Forest) → Kinds f → tells (cons (error n k) f) ≡ told_error n k ∷ tells f
  -- a node is entered, then come its children, and then it is left
  pub of_node : (k : ℕ) (g f : Forest) → KindsNode (node k g) → Kinds f → tells (cons (whole (node k g)) f) ≡ enter k ∷ (tells g ++ leave ∷ tells f)
  -- a node that precedes another one is around it: that one comes first among its children
  pub of_wrap : (n : Node) (k : ℕ) (g f : Forest) → KindsNode (wrap n k g) → Kinds f
      → tells (cons (whole (wrap n k g)) f) ≡ enter k ∷ (tells (cons (whole n) g) ++ leave ∷ tells f)
  -- of an abandoned node only the children are told
  pub of_gone : (g f : Forest) → Kinds g → Kinds f → tells (cons (gone g) f) ≡ tells g ++ tells f
  -- in short
  pub by_shape : (f : Forest) → Kinds f → tells f ≡ told f

-- Telling goes on from call to call: after one more accepted call, what was told before is told, and then what its forest tells.
abbrev pub GoesOnLaw : {C : Type 0} → (C → Call) → Type 0
GoesOnLaw {C} program = (e : Env) (ms : List C) (m : C) (f : Forest) → let r = after_any program e ms in
    Accepted (program m) e (length r.log) r.place f → tell (called e (program m) r).log ≡ tell r.log ++ tells f

-- ---- 5. Balance

-- What is told is balanced, and its nodes are nested or disjoint.
pub record BalanceLaw {C : Type 0} (program : C → Call) : Type 0 where
  pub of_forest : (f : Forest) → Kinds f → Balanced (tells f)
  -- what one accepted call adds is so by itself
  pub of_call : (m : C) (e : Env) (c i : ℕ) (f : Forest) → Accepted (program m) e c i f → Balanced (tells f)
  pub of_calls : (e : Env) (ms : List C) → Balanced (tell (after_any program e ms).log)

-- ---- 6. Turns

-- how many raw tokens are left at a place
abbrev pub tokens_left : Env → ℕ → ℕ
tokens_left e i = length e.kinds - i

-- a loop that may take so many turns
abbrev pub loop_of : {S : Type 0} → (S → Prog (Turn S)) → ℕ → S → Env → ℕ → ℕ → Out S
loop_of turn n s e c i = spin n (λ x. run (turn x) e) s c i

-- each turn that asks for another one takes a token
abbrev pub Advances : {S : Type 0} → (S → Prog (Turn S)) → Env → Type 0
Advances {S} turn e = (s t : S) (c i : ℕ) (f : Forest) → run (turn s) e c i ≡ ok f (again t) → 0 < wides f

-- A loop comes to the same, however many turns it is allowed, as long as they are at least so many more than there are tokens left.
pub record TurnsLaw (more : ℕ) {S : Type 0} (turn : S → Prog (Turn S)) : Type 0 where
  -- if that is an answer or a refusal
  pub settled : (n : ℕ) (s : S) (e : Env) (c i : ℕ) → tokens_left e i + more ≤ n → Settled (run (repeat turn s) e c i)
      → loop_of turn n s e c i ≡ run (repeat turn s) e c i
  -- and whatever it is, if its turns take tokens
  pub advancing : (n : ℕ) (s : S) (e : Env) (c i : ℕ) → i ≤ length e.kinds → tokens_left e i + more ≤ n → Advances turn e
      → loop_of turn n s e c i ≡ run (repeat turn s) e c i

-- The same of nodes that precede one another while a test holds.
abbrev pub wraps_of : (Env → ℕ → Bool) → Prog ℕ → ℕ → Node → Env → ℕ → ℕ → Out (Held (Unit {0}))
wraps_of test body n x e c i = wind n (λ y. test e (i + wide_node y)) (precede (around body) e c i) x

abbrev pub AdvancesWhile : (Env → ℕ → Bool) → Prog ℕ → Env → Type 0
AdvancesWhile test body e = (c i : ℕ) (f : Forest) (k : ℕ) → test e i ≡ true → run body e c i ≡ ok f k → 0 < wides f

pub record WrapsLaw (more : ℕ) (test : Env → ℕ → Bool) (body : Prog ℕ) : Type 0 where
  pub settled : (n : ℕ) (x : Node) (e : Env) (c i : ℕ) → tokens_left e (i + wide_node x) + more ≤ n → Settled (precede (many test body) e c i x)
      → wraps_of test body n x e c i ≡ precede (many test body) e c i x
  pub advancing : (n : ℕ) (x : Node) (e : Env) (c i : ℕ) → i + wide_node x ≤ length e.kinds → tokens_left e (i + wide_node x) + more ≤ n → AdvancesWhile test body e
      → wraps_of test body n x e c i ≡ precede (many test body) e c i x
