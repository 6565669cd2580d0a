-- The steps of a grammar, and what they come to on given tokens: a forest and an answer, or a refusal.
use Rattle.std.specs.Prelude.{ℕ, zero, suc, ◌+◌, ◌-◌, Bool, true, false, cond, not, ◌&&◌, ◌||◌, List, length, Some, None, Option, ◌==◌, nat_lt, slice_index, slice_index_or}
use Rattle.refusals.specs.declared.Refusal.{Refusal}
use Rattle.refusals.specs.declared.Refusal.TheVariants.{LogFull}
use Rattle.tokens.specs.declared.rows.Row.{Row}
use Rattle.tokens.specs.Kinds.{EOF}
use Rattle.tokens.specs.Columns.{joint_in}
use Rattle.tokens.specs.declared.composite.RawTokens.{RawTokens}
use Rattle.tokens.specs.declared.composite.RawTokens.TheVariants.{One, Two, Three}
use Rattle.tokens.specs.Parts.{parts, width}
use Rattle.event_log.specs.Forest.{Node, Forest, ◌<>◌, flats, flat_node, wides, wide_node}
use Rattle.event_log.specs.Forest.Tree.{token, error, whole, gone}
use Rattle.event_log.specs.Forest.Node.{node, wrap}
use Rattle.event_log.specs.Forest.Forest.{nil, cons}

-- the tokens, what the islands at each of them answer, if there are rows, and how many records the log may hold
pub record Env : Type 0 where
  pub kinds : List ℕ
  pub contextual : List ℕ
  -- words of 64 bits: the one of a token says that no space follows it
  pub joint : List ℕ
  -- the edition that each token is read in
  pub editions : List ℕ
  pub rows : List Row
  pub room : ℕ

pub data Out (A : Type 0) : Type 0 where
  ok : Forest → A → Out A
  no : Refusal → Out A
  -- what no call ever comes to: a token that is not there, a node of no kind, a loop that takes no token
  never : Out A

pub data Turn (S : Type 0) : Type 0 where
  again : S → Turn S
  done : S → Turn S

infixr 20 ◌>>=◌
infixr 20 ◌>-◌
mutual
  pub data Prog : Type 0 → Type 1 where
    give : {A : Type 0} → A → Prog A
    -- a refusal at the place reached
    stop : {A : Type 0} → (ℕ → Refusal) → Prog A
    ◌>>=◌ : {A B : Type 0} → Prog A → (A → Prog B) → Prog B
    -- goes by what lies ahead
    here : {A : Type 0} → (Env → ℕ → Prog A) → Prog A
    -- a token of this kind, of so many raw tokens
    take : ℕ → ℕ → Prog (Unit {0})
    fault : ℕ → ℕ → Prog (Unit {0})
    -- A node around what the body takes. It is completed with the kind that the body answers, and may then be
    -- preceded, or it is abandoned, and then answers nothing.
    chain : {A : Type 0} → Prog (Option ℕ) → (ℕ → Wraps A) → Prog (Option A)
    repeat : {S : Type 0} → (S → Prog (Turn S)) → S → Prog S

  -- what precedes a completed node
  pub data Wraps : Type 0 → Type 1 where
    end : {A : Type 0} → A → Wraps A
    see : {A : Type 0} → (Env → ℕ → Wraps A) → Wraps A
    -- what precedes it, and then what precedes that, by what was answered
    ◌>-◌ : {A B : Type 0} → Wraps A → (A → Wraps B) → Wraps B
    -- a node that precedes it, around that and what the body takes, of the kind that the body answers
    around : Prog ℕ → Wraps ℕ
    -- such nodes, one around the other, while the test holds
    many : (Env → ℕ → Bool) → Prog ℕ → Wraps (Unit {0})

infixr 20 ◌>>◌
abbrev pub ◌>>◌ : {A B : Type 0} → Prog A → Prog B → Prog B
◌>>◌ m k = m >>= λ _. k

abbrev pub size : Forest → ℕ
size f = length (flats f)

abbrev pub size_node : Node → ℕ
size_node n = length (flat_node n None)

abbrev pub kind_at : Env → ℕ → ℕ
kind_at e i = slice_index_or e.kinds i EOF

abbrev pub contextual_at : Env → ℕ → ℕ
contextual_at e i = slice_index_or e.contextual i EOF

abbrev pub edition_at : Env → ℕ → ℕ
edition_at e i = slice_index e.editions i

-- no space follows this token
abbrev pub joint_at : Env → ℕ → Bool
joint_at e i = joint_in e.kinds e.joint i

-- the raw token at i is followed by one of this kind with no space between them
abbrev pub followed_by : Env → ℕ → ℕ → Bool
followed_by e i k = joint_at e i && kind_at e (i + 1) == k

-- these raw tokens are next, with no space between them
unfoldable pub raw_ahead : Env → ℕ → RawTokens → Bool
raw_ahead e i (One a) = kind_at e i == a
raw_ahead e i (Two a b) = kind_at e i == a && followed_by e i b
raw_ahead e i (Three a b c) = kind_at e i == a && (followed_by e i b && followed_by e (i + 1) c)

-- a token of this kind is next
abbrev pub ahead : Env → ℕ → ℕ → Bool
ahead e i k = raw_ahead e i (parts k)

-- and it is not the end
abbrev pub present : Env → ℕ → ℕ → Bool
present e i k = not (kind_at e i == EOF) && ahead e i k

-- an identifier that can be read as this keyword is next
abbrev pub readable : Env → ℕ → ℕ → Bool
readable e i k = not (kind_at e i == EOF) && (not (k == EOF) && contextual_at e i == k)

-- A token of this kind spells so many raw tokens here: the raw token of that kind, or one that can be read as a
-- keyword of that kind, or the raw tokens that it is made of.
unfoldable pub spells : Env → ℕ → ℕ → ℕ → Bool
spells e i k w =
    (w == 1 && (not (kind_at e i == EOF) && kind_at e i == k))
    || ((w == 1 && readable e i k)
    || (w == width k && present e i k))

unfoldable pub grow : {A : Type 0} → Forest → Out A → Out A
grow f (ok g a) = ok (f <> g) a
grow f (no r) = no r
grow f never = never

-- from so many records and a place, go on with the answer
unfoldable pub next : {A B : Type 0} → Out A → (A → ℕ → ℕ → Out B) → ℕ → ℕ → Out B
next (ok f a) k c i = grow f (k a (c + size f) (i + wides f))
next (no r) k c i = no r
next never k c i = never

-- one record more, where there is room for it
unfoldable pub record_due : {A : Type 0} → Env → ℕ → ℕ → Out A → Out A
record_due e c i o = elim (nat_lt c e.room) [ true ↦ o | false ↦ no (LogFull i) ]

-- the end of a node of this kind, which is not to be 0, at so many records and a place
unfoldable pub completed : {A : Type 0} → Env → ℕ → ℕ → ℕ → Out A → Out A
completed e zero c i o = never
completed e (suc k) c i o = record_due e c i o

unfoldable pub turned : {S : Type 0} → Turn S → (S → ℕ → ℕ → Out S) → ℕ → ℕ → Out S
turned (again s) k c i = k s c i
turned (done s) k c i = ok nil s

unfoldable pub spin : {S : Type 0} → ℕ → (S → ℕ → ℕ → Out (Turn S)) → S → ℕ → ℕ → Out S
spin zero f s c i = never
spin (suc n) f s c i = next (f s c i) (λ t. turned t (spin n f)) c i

-- a node, with what precedes it so far, and an answer
pub record Held (A : Type 0) : Type 0 where
  pub held : Node
  pub answer : A

unfoldable pub on_node : {A B : Type 0} → Out (Held A) → (A → Node → Out (Held B)) → Out (Held B)
on_node (ok f h) k = k h.answer h.held
on_node (no r) k = no r
on_node never k = never

unfoldable pub wind : ℕ → (Node → Bool) → (Node → Out (Held ℕ)) → Node → Out (Held (Unit {0}))
wind zero t f n = never
wind (suc m) t f n = elim (t n) [ true ↦ on_node (f n) (λ _. wind m t f) | false ↦ ok nil (record { held = n; answer = tt }) ]

-- what a body has come to is put into a node that precedes n
unfoldable pub wrapped : Env → ℕ → ℕ → Node → Out ℕ → Out (Held ℕ)
wrapped e c i n (ok f k) = completed e k (c + size_node n + 1 + size f) (i + wide_node n + wides f) (ok nil (record { held = wrap n k f; answer = k }))
wrapped e c i n (no r) = no r
wrapped e c i n never = never

unfoldable pub in_forest : {A : Type 0} → Out (Held A) → Out (Option A)
in_forest (ok f h) = ok (cons (whole h.held) nil) (Some h.answer)
in_forest (no r) = no r
in_forest never = never

unfoldable pub closed : {A : Type 0} → Env → ℕ → ℕ → Out (Option ℕ) → (ℕ → Node → Out (Held A)) → Out (Option A)
closed e c i (ok f None) w = ok (cons (gone f) nil) None
closed e c i (ok f (Some k)) w = completed e k (c + 1 + size f) (i + wides f) (in_forest (w k (node k f)))
closed e c i (no r) w = no r
closed e c i never w = never

abbrev pub turns : Env → ℕ → ℕ
turns e i = 1 + length e.kinds - i

unfoldable mutual
  -- what a program comes to, from so many records and a place
  pub run : {A : Type 0} → Prog A → Env → ℕ → ℕ → Out A
  run (give a) e c i = ok nil a
  run (stop refusal) e c i = no (refusal i)
  run (m >>= k) e c i = next (run m e c i) (λ a. run (k a) e) c i
  run (here f) e c i = run (f e i) e c i
  run (take k w) e c i = cond (spells e i k w) (record_due e c i (ok (cons (token k w) nil) tt)) never
  run (fault n k) e c i = record_due e c i (ok (cons (error n k) nil) tt)
  run (chain b w) e c i = record_due e c i (closed e c i (run b e (c + 1) i) (λ k. precede (w k) e c i))
  run (repeat b s) e c i = spin (turns e i) (λ x. run (b x) e) s c i

  -- what precedes a node that began at so many records and a place
  pub precede : {A : Type 0} → Wraps A → Env → ℕ → ℕ → Node → Out (Held A)
  precede (end a) e c i n = ok nil (record { held = n; answer = a })
  precede (see g) e c i n = precede (g e (i + wide_node n)) e c i n
  precede (w >- k) e c i n = on_node (precede w e c i n) (λ a. precede (k a) e c i)
  precede (around b) e c i n = record_due e (c + size_node n) (i + wide_node n) (wrapped e c i n (run b e (c + size_node n + 1) (i + wide_node n)))
  precede (many t b) e c i n = wind (turns e (i + wide_node n)) (λ x. t e (i + wide_node x)) (λ x. record_due e (c + size_node x) (i + wide_node x) (wrapped e c i x (run b e (c + size_node x + 1) (i + wide_node x)))) n
