-- What a call does to a parser.
use Rattle.std.specs.Prelude.{◌≡◌, ℕ, ◌+◌, ◌-◌, ◌<◌, ◌≤◌, Bool, true, false, ◌&&◌, List, [], ◌∷◌, ◌++◌, length, replicate, Ok, Err, Result}
use Rattle.std.proofs.Math.ListN as list
use Rattle.event_log.specs.declared.event.Record.{Record}
use Rattle.event_log.specs.declared.event.Record.TheVariants.{Start, Finish, Token, Error}
use Rattle.tokens.specs.declared.input.Input.{Input}
use Rattle.tokens.specs.declared.rows.Row.{Row}
use Rattle.refusals.specs.declared.Refusal.{Refusal}
use Rattle.event_log.specs.declared.parser.Parser.{Parser}
use Rattle.event_log.specs.declared.records.Log.{Log}
use Rattle.event_log.specs.declared.records.Taken.{Taken}
use Rattle.event_log.specs.declared.records.Checkpoint.{Checkpoint}
use Rattle.tokens.specs.Islands.{rows_fit}
use Rattle.refusals.specs.declared.Refusal.TheVariants.{LogFull}
use Rattle.event_log.specs.Forest.{Forest, flats, wides, blank}
use Rattle.event_log.specs.Program.{Env, Prog, Out, run}
use Rattle.event_log.specs.Program.Out.{ok, no}

-- the tokens of these columns, these rows, and so much room in the log
abbrev pub env_with_rows : Input → List Row → ℕ → Env
env_with_rows i rows n = record { kinds = i.kinds.now; contextual = i.contextual.now; joint = i.joint.now; editions = i.editions.now; rows = rows; room = n }

-- the tokens of these columns, no rows, and so much room in the log
abbrev pub env_of : Input → ℕ → Env
env_of i n = env_with_rows i [] n

-- There is a lawful row for each token. This holds of a parser with rows alone, so it is none of what holds of each.
abbrev pub Rowed : Parser → Type 0
Rowed l = rows_fit l.input.kinds.now l.rows.now ≡ true

abbrev pub env : Parser → Env
env l = env_with_rows l.input l.rows.now l.room

-- All that the definitions see of a parser. What lies past its count is not seen.
pub record State : Type 0 where
  pub recs : List Record
  pub place : ℕ
  pub clean : Bool
  pub env : Env
  -- how many records there are in all, blank ones too
  pub long : ℕ

abbrev pub of : Parser → State
of l = record { recs = list.take l.count l.records.now; place = l.place; clean = l.clean; env = env l; long = length l.records.now }

-- there is no error among these records
unfoldable pub faultless : List Record → Bool
faultless [] = true
faultless (Start k fp ∷ rs) = faultless rs
faultless (Finish ∷ rs) = faultless rs
faultless (Token k w ∷ rs) = faultless rs
faultless (Error n k ∷ rs) = false

-- there are these records more, and the place is so many tokens on
pub record Grown (s t : State) (rs : List Record) (w : ℕ) : Type 0 where
  pub by : t.recs ≡ s.recs ++ rs
  pub place : t.place ≡ s.place + w
  pub clean : t.clean ≡ (s.clean && faultless rs)
  pub same : t.env ≡ s.env
  pub long : t.long ≡ s.long

abbrev pub from : {A : Type 0} → Prog A → State → Out A
from m s = run m s.env (length s.recs) s.place

-- What a call does from s to t is what the program comes to in s. A refusal leaves what was there before, and maybe more.
pub data Does {A : Type 0} (m : Prog A) (s t : State) : Result A Refusal → Type 0 where
  did : {a : A} (f : Forest) → from m s ≡ ok f a → Grown s t (flats f) (wides f) → Does m s t (Ok a)
  refused : {e : Refusal} (rs : List Record) (w : ℕ) → from m s ≡ no e → Grown s t rs w → Does m s t (Err e)

-- The same of parsers: a call that meets a program.
abbrev pub Meets : {A : Type 0} → Prog A → Parser → Parser → Result A Refusal → Type 0
Meets m p q r = Does m (of p) (of q) r

-- the log is full
pub record Full (s t : State) (e : Refusal) : Type 0 where
  pub full : s.env.room ≤ length s.recs
  pub refusal : e ≡ LogFull s.place
  pub still : t ≡ s

-- one record more
pub data Pushes (r : Record) (s t : State) : Result (Unit {0}) Refusal → Type 0 where
  pushed : {x : Unit {0}} → length s.recs < s.env.room → Grown s t (r ∷ []) 0 → Pushes r s t (Ok x)
  stuck : {e : Refusal} → Full s t e → Pushes r s t (Err e)

-- a log with the records from one index up to another blank
abbrev pub blanked : List Record → ℕ → ℕ → List Record
blanked l from to = list.take from l ++ (replicate (to - from) blank ++ list.drop to l)

-- All of the log: these records, and from there on blanks, so many in all.
abbrev pub filled : List Record → ℕ → List Record
filled rs n = rs ++ replicate (n - length rs) blank

-- These records and this place, with the tokens, the room and the length of the log as before.
pub record Holds (l m : Parser) (rs : List Record) (i : ℕ) : Type 0 where
  pub log : m.records.now ≡ filled rs (length l.records.now)
  pub count : m.count ≡ length rs
  pub place : m.place ≡ i
  pub same : env m ≡ env l

-- the tokens, the rows and the room of a log
abbrev pub env_of_log : Log → Env
env_of_log l = env_with_rows l.input l.rows.now l.room

-- A log before the first of these tokens, with these rows and so many records, all blank.
pub record BlankLog (input : Input) (rows : List Row) (n : ℕ) (l : Log) : Type 0 where
  pub log : l.records.now ≡ replicate n blank
  pub count : l.count ≡ 0
  pub place : l.place ≡ 0
  pub clean : l.clean ≡ true
  pub same : env_of_log l ≡ env_with_rows input rows n

-- A parser that goes on with a log: over its very columns, rows and records, which stay as they are, from where it had come to.
pub record Resumes (l : Log) (p : Parser) : Type 0 where
  pub input : p.input ≡ l.input
  pub rows : p.rows ≡ l.rows
  pub over : p.records ≡ l.records
  pub log : p.records.now ≡ l.records.now
  pub count : p.count ≡ l.count
  pub place : p.place ≡ l.place
  pub clean : p.clean ≡ l.clean
  pub same : env p ≡ env_of_log l

-- A parser before the first of these tokens, with so many records, all blank.
pub record New (input : Input) (n : ℕ) (l : Parser) : Type 0 where
  pub log : l.records.now ≡ replicate n blank
  pub count : l.count ≡ 0
  pub place : l.place ≡ 0
  pub clean : l.clean ≡ true
  pub same : env l ≡ env_of input n

-- The same, with these rows.
pub record NewWithRows (input : Input) (rows : List Row) (n : ℕ) (l : Parser) : Type 0 where
  pub log : l.records.now ≡ replicate n blank
  pub count : l.count ≡ 0
  pub place : l.place ≡ 0
  pub clean : l.clean ≡ true
  pub same : env l ≡ env_with_rows input rows n

-- A call begins: nothing is at fault yet, and where it began is kept.
pub record Begins (l m : Parser) (c : Checkpoint) : Type 0 where
  pub seen : of m ≡ record { recs = (of l).recs; place = l.place; clean = true; env = env l; long = length l.records.now }
  pub whole : m.records.now ≡ l.records.now
  pub place : c.place ≡ l.place
  pub count : c.count ≡ l.count

-- the call that began here has not gone back behind it
pub record Since (c : Checkpoint) (l : Parser) : Type 0 where
  pub place : c.place ≤ l.place
  pub count : c.count ≤ l.count

-- place and count are put back, and the records after that are blank again
abbrev pub PutsBack : Checkpoint → Parser → Parser → Type 0
PutsBack c l m = Holds l m (list.take c.count l.records.now) c.place

-- A call ends: accepted, its answer is read off; refused, all that it left is taken back.
pub data Concludes (c : Checkpoint) (l m : Parser) : Result (Unit {0}) Refusal → Result Taken Refusal → Type 0 where
  accepted : {a : Unit {0}} {t : Taken} → m ≡ l → t.tokens ≡ l.place - c.place → t.clean ≡ l.clean → Concludes c l m (Ok a) (Ok t)
  taken_back : {e : Refusal} → PutsBack c l m → Concludes c l m (Err e) (Err e)

-- What a whole call does: the answer, the place, the count and every record to the end of the log are those that the program comes to.
-- Refused, the records, the count and the place are as before.
pub data Performs {A : Type 0} (p : Prog A) (l m : Parser) : Result Taken Refusal → Type 0 where
  performed : {t : Taken} (f : Forest) (a : A) → from p (of l) ≡ ok f a
      → Holds l m ((of l).recs ++ flats f) (l.place + wides f)
      → t.tokens ≡ wides f → t.clean ≡ faultless (flats f) → Performs p l m (Ok t)
  refused : {e : Refusal} → from p (of l) ≡ no e → Holds l m (of l).recs l.place → Performs p l m (Err e)
