-- What the program makes of a token file.
use Rattle.std.specs.Prelude.{◌≡◌, ℕ, ◌<◌, ◌≤◌, List, map, length, Some, None, Ok, Err, Result}
use Rattle.std.specs.List.{range_with_len}
use Rattle.event_log.specs.declared.event.Record.{Record}
use Rattle.tokens.specs.declared.input.Input.{Input}
use Rattle.event_log.specs.declared.item.Item.{Item}
use Rattle.event_log.specs.declared.parser.Parser.{Parser}
use Rattle.refusals.specs.declared.Refusal.{Refusal}
use Rattle.refusals.specs.declared.Layer.TheVariants.{File}
use Rattle.tokens.specs.Kinds.{EOF}
use Rattle.refusals.specs.declared.Refusal.TheVariants.{TooManyTokens, LogFull}
use Rattle.event_log.specs.Program.{kind_at}
use Rattle.event_log.specs.Model.{env, env_of}
use Rattle.event_log.specs.Tell.{tell}
use Rattle.grammar.specs.Verdict.{verdict}
use Rattle.file.specs.TokenFile.{kind_of, contextual_of, edition_of, joint_word, words_for, tokens_of, into_columns}
use Rattle.sinks.specs.Sink.{Heard}
use Rattle.sinks.specs.Walk.{Lawful, TellsAll}

-- the bytes of the longest file
abbrev pub max_bytes : ℕ
max_bytes = 2434

-- the records of the log
abbrev pub records : ℕ
records = 8192

-- how many tokens are read into the program's columns, which have entries for 1,024, or why none
abbrev pub read_from : List ℕ → Result ℕ Refusal
read_from bytes = into_columns 1024 1024 16 1024 (tokens_of bytes)

-- the log is at the end of the same tokens
pub record AllTaken (l m : Parser) : Type 0 where
  pub same : env m ≡ env l
  pub ended : kind_at (env m) m.place ≡ EOF

-- every token is taken, or the log is full
pub data TakesAll (l m : Parser) : Result (Unit {0}) Refusal → Type 0 where
  taken : {x : Unit {0}} → AllTaken l m → TakesAll l m (Ok x)
  stuck : {e : Refusal} (place : ℕ) → e ≡ LogFull place → TakesAll l m (Err e)

-- these columns hold the n tokens of a file
pub record HoldsFile (bytes : List ℕ) (n : ℕ) (i : Input) : Type 0 where
  pub kinds : i.kinds.now ≡ map (kind_of bytes) (range_with_len 0 n)
  pub contextual : i.contextual.now ≡ map (contextual_of bytes) (range_with_len 0 n)
  pub joint : i.joint.now ≡ map (joint_word bytes n) (range_with_len 0 (words_for n))
  pub editions : i.editions.now ≡ map (edition_of bytes) (range_with_len 0 n)

-- A file is refused as too long, as no token file, or for its tokens, and nothing is told then; nor is it where the log is full. Otherwise
-- some records were made that are lawful for all tokens of the file, and what they tell is told: all of it, or as much as the sink has room for.
pub data Lists (size : Item → ℕ) (bytes : List ℕ) (s t : Heard) : Result (Unit {0}) Refusal → Type 0 where
  too_long : {e : Refusal} → max_bytes < length bytes → e ≡ TooManyTokens File → t ≡ s → Lists size bytes s t (Err e)
  unread : {e : Refusal} → length bytes ≤ max_bytes → read_from bytes ≡ Err e → t ≡ s → Lists size bytes s t (Err e)
  unopened : {e : Refusal} {n : ℕ} (i : Input) → length bytes ≤ max_bytes → read_from bytes ≡ Ok n → HoldsFile bytes n i → verdict i records ≡ Some e
      → t ≡ s → Lists size bytes s t (Err e)
  full : {e : Refusal} {n : ℕ} (i : Input) (place : ℕ) → length bytes ≤ max_bytes → read_from bytes ≡ Ok n → HoldsFile bytes n i → verdict i records ≡ None
      → e ≡ LogFull place → t ≡ s → Lists size bytes s t (Err e)
  told : {r : Result (Unit {0}) Refusal} {n : ℕ} (i : Input) (rs : List Record) → length bytes ≤ max_bytes → read_from bytes ≡ Ok n → HoldsFile bytes n i
      → verdict i records ≡ None → Lawful (env_of i records) n (tell rs) → TellsAll size rs s t r → Lists size bytes s t r
