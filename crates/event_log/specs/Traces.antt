-- What an accepted run went through, step by step: the words for a proof about one function of a grammar.
use Rattle.std.specs.Prelude.{◌≡◌, ℕ, ◌+◌, ◌<◌, Bool, true, false, Some, None, Option}
use Rattle.event_log.specs.Forest.{Node, Forest, ◌<>◌, wides, wide_node}
use Rattle.event_log.specs.Forest.Tree.{whole, gone}
use Rattle.event_log.specs.Forest.Node.{node, wrap}
use Rattle.event_log.specs.Forest.Forest.{nil, cons}
use Rattle.event_log.specs.Program.{Env, Prog, Wraps, Turn, Held, size, size_node, run, precede}
use Rattle.event_log.specs.Program.Wraps.{end, see, ◌>-◌, around, many}
use Rattle.event_log.specs.Program.Turn.{again, done}
use Rattle.event_log.specs.Program.Out.{ok}

-- one program, and then what it answers to
pub record Bound {A B : Type 0} (m : Prog A) (k : A → Prog B) (e : Env) (c i : ℕ) (h : Forest) (b : B) : Type 0 where
  pub first : Forest
  pub answered : A
  pub second : Forest
  pub ran : run m e c i ≡ ok first answered
  pub went_on : run (k answered) e (c + size first) (i + wides first) ≡ ok second b
  pub joined : h ≡ first <> second

-- the turns of a loop: the last one, or one with others behind it
pub data Spun {S : Type 0} (b : S → Prog (Turn S)) (e : Env) : S → ℕ → ℕ → Forest → S → Type 0 where
  last_turn : {s : S} {c i : ℕ} {f : Forest} {z : S} → run (b s) e c i ≡ ok f (done z) → Spun b e s c i f z
  turn : {s : S} {c i : ℕ} {f : Forest} {t : S} {g : Forest} {z : S} → run (b s) e c i ≡ ok f (again t) → Spun b e t (c + size f) (i + wides f) g z → Spun b e s c i (f <> g) z

-- a node is put around n, by a body of which the node takes the kind k and the children f
pub record WrappedBy (b : Prog ℕ) (e : Env) (c i : ℕ) (n : Node) (k : ℕ) (f : Forest) : Type 0 where
  pub room : c + size_node n < e.room
  pub ran : run b e (c + size_node n + 1) (i + wide_node n) ≡ ok f k
  pub named : 0 < k

-- the nodes that a loop puts one around the other
pub data Wound (t : Env → ℕ → Bool) (b : Prog ℕ) (e : Env) (c i : ℕ) : Node → Node → Type 0 where
  enough : {n : Node} → t e (i + wide_node n) ≡ false → Wound t b e c i n n
  one_more : {n y : Node} {k : ℕ} {f : Forest} → t e (i + wide_node n) ≡ true → WrappedBy b e c i n k f → Wound t b e c i (wrap n k f) y → Wound t b e c i n y

-- one thing that precedes a node, and then what its answer leads to
pub record ThenBy {A B : Type 0} (w : Wraps A) (v : A → Wraps B) (e : Env) (c i : ℕ) (n : Node) (h : Held B) : Type 0 where
  pub between : Node
  pub answered : A
  pub first : precede w e c i n ≡ ok nil (record { held = between; answer = answered })
  pub went_on : precede (v answered) e c i between ≡ ok nil h

-- a node that was completed, with what then preceded it: it is one whole tree
pub record Completed {A : Type 0} (b : Prog (Option ℕ)) (w : ℕ → Wraps A) (e : Env) (c i : ℕ) (f : Forest) (a : A) : Type 0 where
  -- what stands in the first node, and its kind
  pub body : Forest
  pub kind : ℕ
  -- the node, with all that precedes it
  pub outer : Node
  pub room : c < e.room
  pub ran : run b e (c + 1) i ≡ ok body (Some kind)
  pub named : 0 < kind
  pub preceded : precede (w kind) e c i (node kind body) ≡ ok nil (record { held = outer; answer = a })
  pub alone : f ≡ cons (whole outer) nil

-- a node that was abandoned
pub record Abandoned (b : Prog (Option ℕ)) (e : Env) (c i : ℕ) (f : Forest) : Type 0 where
  pub body : Forest
  pub room : c < e.room
  pub ran : run b e (c + 1) i ≡ ok body None
  pub alone : f ≡ cons (gone body) nil

-- a program comes to this answer somewhere
pub record Answers {A : Type 0} (m : Prog A) (a : A) : Type 0 where
  pub tokens : Env
  pub records : ℕ
  pub place : ℕ
  pub forest : Forest
  pub ran : run m tokens records place ≡ ok forest a

-- Wherever what precedes a node comes to an end, this holds of the kind that was completed last, where k is the last one so far, and of the answer.
abbrev pub Ends : {A : Type 0} → (ℕ → A → Type 0) → ℕ → Wraps A → Type 0
Ends P k (end a) = P k a
Ends P k (see g) = (e : Env) (i : ℕ) → Ends P k (g e i)
Ends P k (w >- f) = Ends (λ j a. Ends P j (f a)) k w
Ends P k (around b) = (j : ℕ) → Answers b j → P j j
Ends P k (many t b) = P k tt × ((j : ℕ) → Answers b j → P j tt)
