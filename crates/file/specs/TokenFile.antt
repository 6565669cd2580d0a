-- A token file: what its bits say, when it is refused, and what the columns then hold.
use Rattle.std.specs.Prelude.{◌≡◌, ℕ, zero, suc, ◌+◌, ◌-◌, ◌*◌, ◌/◌, ◌%◌, ◌^◌, ◌<◌, ◌≤◌, min, cond, ◌||◌, List, ◌++◌, map, length, drop, IfOk, Ok, Err, Result, ◌==◌, nat_lt, slice_index}
use Rattle.std.specs.List.{range_with_len}
use Rattle.std.specs.Borrow.{MutBor}
use Rattle.file.specs.declared.Columns.{Columns as Lent}
use Rattle.tokens.specs.Limits.{max_tokens}
use Rattle.refusals.specs.declared.Refusal.TheVariants.{TooManyTokens, FileShort, FileLong, ColumnShort}
use Rattle.refusals.specs.declared.Refusal.{Refusal}
use Rattle.refusals.specs.declared.Layer.TheVariants.{File}

-- bit n of the file, from 0 on: the first bit of a byte is its most significant
unfoldable pub bit_at : List ℕ → ℕ → ℕ
bit_at bytes n = slice_index bytes (n / 8) / 2 ^ (7 - n % 8) % 2

-- the number that so many bits make from bit `at` on, the most significant first
unfoldable pub number_at : List ℕ → ℕ → ℕ → ℕ
number_at bytes at zero = 0
number_at bytes at (suc width) = 2 * number_at bytes at width + bit_at bytes (at + width)

-- the count of the tokens: 16 bits
abbrev pub count_of : List ℕ → ℕ
count_of bytes = number_at bytes 0 16

-- Token i has the 19 bits from here on. The first token that there is not begins where the tokens end.
abbrev pub token_at : ℕ → ℕ
token_at i = 16 + 19 * i

-- its kind, 8 bits
abbrev pub kind_of : List ℕ → ℕ → ℕ
kind_of bytes i = number_at bytes (token_at i) 8

-- its contextual kind, 8 bits
abbrev pub contextual_of : List ℕ → ℕ → ℕ
contextual_of bytes i = number_at bytes (token_at i + 8) 8

-- whether it is joint, 1 bit
abbrev pub joint_of : List ℕ → ℕ → ℕ
joint_of bytes i = bit_at bytes (token_at i + 16)

-- its edition, 2 bits
abbrev pub edition_of : List ℕ → ℕ → ℕ
edition_of bytes i = number_at bytes (token_at i + 17) 2

-- the bytes of a file of n tokens
abbrev pub bytes_for : ℕ → ℕ
bytes_for n = 2 + (19 * n + 7) / 8

-- the number that the bits behind the last of n tokens make, up to the end of its byte
abbrev pub spare_of : List ℕ → ℕ → ℕ
spare_of bytes n = number_at bytes (token_at n) (8 * bytes_for n - token_at n)

-- how many tokens a file has, or why it is refused, whatever the columns
abbrev pub tokens_of : List ℕ → Result ℕ Refusal
tokens_of bytes =
    cond (nat_lt (length bytes) 2) (Err FileShort)
    (cond (nat_lt max_tokens (count_of bytes)) (Err (TooManyTokens File))
    (cond (nat_lt (length bytes) (bytes_for (count_of bytes))) (Err FileShort)
    (cond (nat_lt (bytes_for (count_of bytes)) (length bytes)) (Err FileLong)
    (cond (spare_of bytes (count_of bytes) == 0) (Ok (count_of bytes)) (Err FileLong)))))

-- the words of the joint bits of n tokens
abbrev pub words_for : ℕ → ℕ
words_for n = (n + 63) / 64

-- the same in columns of these lengths, which may be too short for the tokens
abbrev pub into_columns : ℕ → ℕ → ℕ → ℕ → Result ℕ Refusal → Result ℕ Refusal
into_columns kinds contextual joint editions (Ok n) =
    cond (nat_lt kinds n || (nat_lt contextual n || (nat_lt joint (words_for n) || nat_lt editions n))) (Err ColumnShort) (Ok n)
into_columns kinds contextual joint editions (Err e) = Err e

-- the tokens that were read: none of a file that is refused
abbrev pub read_of : Result ℕ Refusal → ℕ
read_of (Ok n) = n
read_of (Err e) = 0

-- A column whose first n entries are f 0, f 1 and so on, and the others as they were: where n is 0, all of them.
abbrev pub written : (ℕ → ℕ) → ℕ → List ℕ → List ℕ
written f n column = map f (range_with_len 0 n) ++ drop n column

-- the number of n bits, the least significant first
unfoldable pub word_of : (ℕ → ℕ) → ℕ → ℕ
word_of f zero = 0
word_of f (suc n) = word_of f n + f n * 2 ^ n

-- Word w of the joint bits of n tokens: bit b is that of token 64 w + b, and 0 where there is no such token.
abbrev pub joint_word : List ℕ → ℕ → ℕ → ℕ
joint_word bytes n w = word_of (λ b. joint_of bytes (64 * w + b)) (min (n - 64 * w) 64)

-- in these words of joint bits, bit i modulo 64 of word i divided by 64 is the joint bit of token i, and 0 past the last of n tokens
abbrev pub JointBits : List ℕ → ℕ → List ℕ → Type 0
JointBits bytes n words = (i : ℕ) → i < 64 * words_for n → slice_index words (i / 64) / 2 ^ (i % 64) % 2 ≡ cond (nat_lt i n) (joint_of bytes i) 0

-- The columns that a file is read into, before and after.
pub record Columns : Type 0 where
  pub kinds : List ℕ
  pub contextual : List ℕ
  pub joint : List ℕ
  pub editions : List ℕ

abbrev pub columns : List ℕ → List ℕ → List ℕ → List ℕ → Columns
columns ks cs js es = record { kinds = ks; contextual = cs; joint = js; editions = es }

-- the columns that are lent
abbrev pub lent : Lent → Columns
lent c = columns c.kinds.now c.contextual.now c.joint.now c.editions.now

-- the columns as a call leaves them, behind the references that were lent
abbrev pub left : {X : Type 0} → MutBor (List ℕ) × (MutBor (List ℕ) × (MutBor (List ℕ) × (MutBor (List ℕ) × X))) → Columns
left (ks, (cs, (js, (es, _)))) = columns ks.now cs.now js.now es.now

-- A file is read: the answer is what its bits say of these columns, and each column is then what they say; refused, all are as before.
pub record Reads (bytes : List ℕ) (before after : Columns) (r : Result ℕ Refusal) : Type 0 where
  pub answer : r ≡ into_columns (length before.kinds) (length before.contextual) (length before.joint) (length before.editions) (tokens_of bytes)
  pub room : IfOk r (λ n. (n ≤ max_tokens) × (n ≤ length before.kinds) × (n ≤ length before.contextual) × (words_for n ≤ length before.joint) × (n ≤ length before.editions))
  pub kinds_read : after.kinds ≡ written (kind_of bytes) (read_of r) before.kinds
  pub contextual_read : after.contextual ≡ written (contextual_of bytes) (read_of r) before.contextual
  pub joint_read : after.joint ≡ written (joint_word bytes (read_of r)) (words_for (read_of r)) before.joint
  pub editions_read : after.editions ≡ written (edition_of bytes) (read_of r) before.editions
