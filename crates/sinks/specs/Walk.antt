-- What a walk does: it tells the records of a reading to a sink, and keeps marks of the starts that are used.
use Rattle.std.specs.Prelude.{◌≡◌, ℕ, suc, ◌+◌, ◌<◌, ◌≤◌, Bool, true, false, cond, not, ◌&&◌, List, ◌∷◌, ◌++◌, map, length, take, drop, replicate, Some, None, Ok, Err, Option, Result, ◌==◌, nat_lt, slice_index_or}
use Rattle.event_log.specs.declared.event.Record.{Record}
use Rattle.event_log.specs.declared.event.Record.TheVariants.{Start, Finish, Token, Error}
use Rattle.event_log.specs.declared.item.Item.{Item}
use Rattle.event_log.specs.declared.parser.Parser.{Parser}
use Rattle.refusals.specs.declared.Refusal.{Refusal}
use Rattle.refusals.specs.declared.Refusal.TheVariants.{MarksShort, SinkFull}
use Rattle.event_log.specs.Program.{Env}
use Rattle.event_log.specs.Model.{env}
use Rattle.event_log.specs.Tell.{climb, use_up, nearer, tell_each, unused, tell, teller}
use Rattle.event_log.specs.Spelling.{Tokens}
use Rattle.event_log.specs.Balance.{Balanced}
use Rattle.sinks.specs.declared.sink.Full.{Full}
use Rattle.sinks.specs.Sink.{Heard, fitting, Tells}

-- the marks, with the first n zero
abbrev pub cleared : ℕ → List ℕ → List ℕ
cleared n marks = replicate n 0 ++ drop n marks

-- a start is used where its mark is not 0
abbrev pub is_used : ℕ → Bool
is_used m = not (m == 0)

abbrev pub used : ℕ → List ℕ → List Bool
used n marks = map is_used (take n marks)

-- how far ahead this record says that the start lies that precedes it, if it says so
abbrev pub forward_of : Record → Option ℕ
forward_of (Start k fp) = fp
forward_of Finish = None
forward_of (Token k w) = None
forward_of (Error n k) = None

abbrev pub is_start : Record → Bool
is_start (Start k fp) = true
is_start Finish = false
is_start (Token k w) = false
is_start (Error n k) = false

abbrev pub kind_of : Record → ℕ
kind_of (Start k fp) = k
kind_of Finish = 0
kind_of (Token k w) = 0
kind_of (Error n k) = 0

-- the record at an index; past the end there is none, and a Finish stands for it
abbrev pub at : List Record → ℕ → Record
at rs i = slice_index_or rs i Finish

-- where a forward offset leads to from an index, if a start is there
abbrev pub ahead : List Record → ℕ → Option ℕ → Option ℕ
ahead rs i None = None
ahead rs i (Some n) = cond (nat_lt 0 n && is_start (at rs (i + n))) (Some (i + n)) None

-- the start that precedes the one at this index, if there is one
abbrev pub parent_of : List Record → ℕ → Option ℕ
parent_of rs i = ahead rs i (forward_of (at rs i))

-- the kinds of the chain of starts that begins at this index
abbrev pub chain : List Record → ℕ → List ℕ
chain rs i = climb (Some 0) (drop i rs)

-- the marks, with that chain used, but for its first start
abbrev pub mark_chain : List Record → ℕ → List Bool → List Bool
mark_chain rs i us = take (suc i) us ++ use_up (nearer (forward_of (at rs i))) (drop (suc i) rs) (drop (suc i) us)

-- what the records from the index i on tell, one by one
abbrev pub each_from : List Record → List Bool → ℕ → List (List Item)
each_from rs us i = tell_each (drop i rs) (drop i us)

-- The record at this index is told: what it tells is what the rule says, and the marks are then those for the records after it. The
-- marks past the records are as before.
pub record TellsRecord (size : Item → ℕ) (rs : List Record) (i : ℕ) (before after : List ℕ) (s t : Heard) (r : Result (Unit {0}) Full) : Type 0 where
  pub told : List Item
  pub by_rule : each_from rs (used (length rs) before) i ≡ told ∷ each_from rs (used (length rs) after) (suc i)
  pub tells : Tells size told s t r
  pub others : drop (length rs) after ≡ drop (length rs) before

-- what each record tells
abbrev pub each : List Record → List (List Item)
each rs = tell_each rs (unused rs)

-- All that these records tell is told; or as much of it as fits, and the refusal names the record that tells the first item that does not fit.
pub data TellsAll (size : Item → ℕ) (rs : List Record) (s t : Heard) : Result (Unit {0}) Refusal → Type 0 where
  all : {x : Unit {0}} → Tells size (tell rs) s t (Ok x) → TellsAll size rs s t (Ok x)
  part : {e : Refusal} (full : Full) → Tells size (tell rs) s t (Err full) → e ≡ SinkFull (teller (length (fitting size s.room (tell rs))) (each rs))
      → TellsAll size rs s t (Err e)

-- A walk: with fewer marks than records nothing is told and no mark is touched; otherwise the records are told, and the first marks, one for
-- each record, are zero, and the rest as before.
pub data Walks (size : Item → ℕ) (rs : List Record) (before after : List ℕ) (s t : Heard) : Result (Unit {0}) Refusal → Type 0 where
  walked : {r : Result (Unit {0}) Refusal} → length rs ≤ length before → TellsAll size rs s t r → after ≡ cleared (length rs) before
      → Walks size rs before after s t r
  no_marks : {e : Refusal} → length before < length rs → e ≡ MarksShort → after ≡ before → t ≡ s → Walks size rs before after s t (Err e)

-- The law of what an accepted walk told, for these tokens and this place: its tokens spell the raw tokens from the first one up to the
-- place, each raw token in exactly one of them; each enter has one leave and each leave one enter; two nodes are nested or disjoint.
pub record Lawful (e : Env) (place : ℕ) (told : List Item) : Type 0 where
  pub tokens : Tokens e place told
  pub nodes : Balanced told

-- A sink that was told something more.
pub record ToldMore (P : List Item → Type 0) (s t : Heard) : Type 0 where
  pub told : List Item
  pub more : t.items ≡ s.items ++ told
  pub such : P told

abbrev pub WalkLaw : Parser → Heard → Heard → Result (Unit {0}) Refusal → Type 0
WalkLaw l s t (Ok x) = ToldMore (Lawful (env l) l.place) s t
WalkLaw l s t (Err e) = Unit {0}
