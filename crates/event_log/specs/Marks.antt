-- What a call does to a node: it is started, its body goes on inside it, and it is completed or abandoned; others may then precede it.
use Rattle.std.specs.Prelude.{◌≡◌, ℕ, ◌+◌, ◌<◌, List, [], ◌∷◌, ◌++◌, length, Some, None, Ok, Err, Option, Result}
use Rattle.refusals.specs.declared.Refusal.{Refusal}
use Rattle.event_log.specs.declared.event.Record.{Record}
use Rattle.event_log.specs.declared.event.Record.TheVariants.{Start, Finish}
use Rattle.event_log.specs.declared.marker.Marker.{Marker}
use Rattle.event_log.specs.declared.marker.CompletedMarker.{CompletedMarker}
use Rattle.event_log.specs.declared.parser.Parser.{Parser}
use Rattle.event_log.specs.Forest.{Node, flat_node, own, kind_of, wide_node, blank, left_in}
use Rattle.event_log.specs.Forest.Forest.{nil}
use Rattle.event_log.specs.Program.{Prog, Wraps, precede}
use Rattle.event_log.specs.Program.Out.{ok, no}
use Rattle.event_log.specs.Model.{State, of, Grown, Full, Meets}

-- a node was started
pub data Starts (s t : State) : Result Marker Refusal → Type 0 where
  started : {m : Marker} → m.at ≡ length s.recs → length s.recs < s.env.room → Grown s t (blank ∷ []) 0 → Starts s t (Ok m)
  stuck : {e : Refusal} → Full s t e → Starts s t (Err e)

-- since b, where the node was started, there is its start, and in it are these records
pub record Inside (b : State) (rs : List Record) (w : ℕ) (m : Marker) (s : State) : Type 0 where
  pub grown : Grown b s (blank ∷ rs) w
  pub at : m.at ≡ length b.recs

-- its start is in the log
abbrev pub Open : Marker → State → Type 0
Open m s = m.at < length s.recs

-- the node of a marker is completed, where there is room for its end
pub data Closed (b : State) (rs : List Record) (w k : ℕ) (s t : State) : Result CompletedMarker Refusal → Type 0 where
  closed : {c : CompletedMarker} → 0 < k → length s.recs < s.env.room
      → Grown b t (Start k None ∷ (rs ++ Finish ∷ [])) w
      → c.start ≡ length b.recs → c.end ≡ length t.recs → c.kind ≡ k → Closed b rs w k s t (Ok c)
  unclosed : {e : Refusal} (more : List Record) → 0 < k → Full s t e → Grown b t more w → Closed b rs w k s t (Err e)

abbrev pub Completes : Marker → ℕ → Parser → Parser → Result CompletedMarker Refusal → Type 0
Completes m k p q r = (b : State) (rs : List Record) (w : ℕ) → Inside b rs w m (of p) → Closed b rs w k (of p) (of q) r

abbrev pub Abandons : Marker → Parser → Parser → Type 0
Abandons m p q = (b : State) (rs : List Record) (w : ℕ) → Inside b rs w m (of p) → Grown b (of q) (left_in rs) w

-- A kind is not 0, where one was answered.
abbrev pub Named : Result (Option ℕ) Refusal → Type 0
Named (Ok (Some k)) = 0 < k
Named (Ok None) = Unit {0}
Named (Err e) = Unit {0}

-- The node gets the kind that its body answered, or it is abandoned; a refusal is handed on.
pub data Settled (b : State) (rs : List Record) (w : ℕ) (s t : State) : Result (Option ℕ) Refusal → Result (Option CompletedMarker) Refusal → Type 0 where
  completed : {k : ℕ} {c : CompletedMarker} → Closed b rs w k s t (Ok c) → Settled b rs w s t (Ok (Some k)) (Ok (Some c))
  uncompleted : {k : ℕ} {e : Refusal} → Closed b rs w k s t (Err e) → Settled b rs w s t (Ok (Some k)) (Err e)
  abandoned : Grown b t (left_in rs) w → Settled b rs w s t (Ok None) (Ok None)
  passed : {e : Refusal} (more : List Record) → Grown b t more w → Settled b rs w s t (Err e) (Err e)

abbrev pub Settles : Marker → Parser → Parser → Result (Option ℕ) Refusal → Result (Option CompletedMarker) Refusal → Type 0
Settles m p q r x = (b : State) (rs : List Record) (w : ℕ) → Inside b rs w m (of p) → Settled b rs w (of p) (of q) r x

-- The node gets this kind; a refusal of its body is handed on.
pub data Finished {A : Type 0} (b : State) (rs : List Record) (w k : ℕ) (s t : State) : Result A Refusal → Result CompletedMarker Refusal → Type 0 where
  completed : {a : A} {r : Result CompletedMarker Refusal} → Closed b rs w k s t r → Finished b rs w k s t (Ok a) r
  passed : {e : Refusal} (more : List Record) → Grown b t more w → Finished b rs w k s t (Err e) (Err e)

abbrev pub Finishes : {A : Type 0} → Marker → ℕ → Parser → Parser → Result A Refusal → Result CompletedMarker Refusal → Type 0
Finishes m k p q r x = (b : State) (rs : List Record) (w : ℕ) → Inside b rs w m (of p) → Finished b rs w k (of p) (of q) r x

-- and the marker is let go
abbrev pub let_go : Result CompletedMarker Refusal → Result (Unit {0}) Refusal
let_go (Ok c) = Ok tt
let_go (Err e) = Err e

abbrev pub Closes : {A : Type 0} → Marker → ℕ → Parser → Parser → Result A Refusal → Result (Unit {0}) Refusal → Type 0
Closes m k p q r x = (b : State) (rs : List Record) (w : ℕ) → Inside b rs w m (of p)
    → (y : Result CompletedMarker Refusal) × Finished b rs w k (of p) (of q) r y × (x ≡ let_go y)

-- All that there is since b is the node n, and the marker is at its own start.
pub record Pending (b : State) (n : Node) (c : CompletedMarker) (t : State) : Type 0 where
  pub grown : Grown b t (flat_node n None) (wide_node n)
  pub start : c.start + own n ≡ length t.recs
  pub end : c.end ≡ length t.recs
  pub kind : c.kind ≡ kind_of n

-- the log ends with the node of this marker
abbrev pub Last : CompletedMarker → State → Type 0
Last c s = (b : State) × (n : Node) × Pending b n c s

-- What precedes the node n since b is what the program says; show says which part of a call's answer is the marker, and which the
-- program's answer. A refusal leaves what was there before the node.
pub data Winds {X A : Type 0} (show : X → CompletedMarker × A) (w : Wraps A) (b : State) (n : Node) (t : State) : Result X Refusal → Type 0 where
  wound : {x : X} (m : Node) → precede w b.env (length b.recs) b.place n ≡ ok nil (record { held = m; answer = (show x).1 })
      → Pending b m (show x).0 t → Winds show w b n t (Ok x)
  refused : {e : Refusal} (rs : List Record) (v : ℕ) → precede w b.env (length b.recs) b.place n ≡ no e
      → Grown b t rs v → Winds show w b n t (Err e)

-- a call that takes the marker of a completed node and goes on with it
abbrev pub Precedes : {X A : Type 0} → (X → CompletedMarker × A) → Wraps A → CompletedMarker → State → State → Result X Refusal → Type 0
Precedes show w c s t r = (b : State) (n : Node) → Pending b n c s → Winds show w b n t r

-- The same of parsers: a call that also answers with a kind for the node around it, and one that extends a completed node.
abbrev pub Picks : Prog (Option ℕ) → Parser → Parser → Result (Option ℕ) Refusal → Type 0
Picks m p q r = Meets m p q r × Named r

abbrev pub Extends : {X A : Type 0} → (X → CompletedMarker × A) → Wraps A → CompletedMarker → Parser → Parser → Result X Refusal → Type 0
Extends show w c p q r = Precedes show w c (of p) (of q) r

-- the start of a node that precedes n was put after it
pub data Led (b : State) (n : Node) (s t : State) : Result Marker Refusal → Type 0 where
  led : {m : Marker} → m.at ≡ length s.recs → length s.recs < s.env.room
      → Grown b t (flat_node n (Some (own n)) ++ blank ∷ []) (wide_node n) → Led b n s t (Ok m)
  stuck : {e : Refusal} → Full s t e → Led b n s t (Err e)

abbrev pub Leads : CompletedMarker → Parser → Parser → Result Marker Refusal → Type 0
Leads c p q r = (b : State) (n : Node) → Pending b n c (of p) → Led b n (of p) (of q) r

-- the answer of a call is the marker, and the program's is the kind
abbrev pub by_kind : CompletedMarker → CompletedMarker × ℕ
by_kind c = (c, c.kind)

-- the answer of a call is the marker, and the program's is none
abbrev pub only : CompletedMarker → CompletedMarker × Unit {0}
only c = (c, tt)
