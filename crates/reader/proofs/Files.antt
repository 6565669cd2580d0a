-- A file that was read, opened, gone through and told.
use Rattle.std.proofs.Common.{◌≡◌, ℕ, ◌-◌, ◌<◌, ◌≤◌, ◌⊎◌, List, map, length, take, drop, IsErrAnd, None, Ok, Err, Result, sym, refl, ap, ◌∙◌, subst₂, inl, inr, arith, take_at, MutBor}
use Rattle.std.specs.List.{range_with_len}
use Rattle.std.proofs.lemmas.List.FromFn.{length-map-range_with_len}
use Rattle.std.proofs.lemmas.Bool.{cases_lt}
use Rattle.event_log.specs.declared.event.Record.{Record}
use Rattle.tokens.specs.declared.input.Input.{Input}
use Rattle.event_log.specs.declared.item.Item.{Item}
use Rattle.event_log.specs.declared.parser.Parser.{Parser}
use Rattle.refusals.specs.declared.Refusal.{Refusal}
use Rattle.tokens.specs.Kinds.{EOF}
use Rattle.event_log.specs.Program.{Env, kind_at}
use Rattle.event_log.specs.Model.{of, env, env_of}
use Rattle.event_log.specs.Tell.{tell}
use Rattle.event_log.proofs.Slots.{counted}
use Rattle.grammar.specs.declared.reading.Reading.{Reading}
use Rattle.grammar.specs.declared.reading.Unopened.{Unopened}
use Rattle.grammar.specs.Verdict.{verdict}
use Rattle.grammar.specs.Open.{Opens}
use Rattle.grammar.specs.Open.Opens.{opened, refused}
use Rattle.grammar.proofs.Verdicts.{no_end}
use Rattle.file.specs.TokenFile.{written, words_for, kind_of, contextual_of, edition_of, joint_word, Columns, Reads}
use Rattle.sinks.specs.Sink.{Heard}
use Rattle.sinks.specs.Walk.{Walks, Lawful}
use Rattle.sinks.proofs.Laws.{lawful}
use Rattle.sinks.specs.Walk.Walks.{walked, no_marks}
use Rattle.reader.specs.List.{max_bytes, records, read_from, AllTaken, TakesAll, HoldsFile, Lists}
use Rattle.reader.specs.List.TakesAll.{taken, stuck}
use Rattle.reader.specs.List.Lists.{unread, unopened, full, told}

-- the exit of a `?`, where the file was not read
pub not_read : {size : Item → ℕ} {bytes : List ℕ} {s : Heard} {e : Refusal} (o : Result ℕ Refusal) → length bytes ≤ max_bytes → Err e ≡ o → read_from bytes ≡ o
    → (r : Result (Unit {0}) Refusal) → IsErrAnd r (λ f. f ≡ e) → Lists size bytes s s r
not_read o le p q (Ok x) z = absurd z
not_read o le p q (Err f) z = unread le (q ∙ sym p ∙ ap (λ (y : Refusal). Err y) (sym z)) refl

-- the columns that were read, as far as the tokens go
front : (f : ℕ → ℕ) (k n : ℕ) (xs ys : List ℕ) → k ≡ n → ys ≡ written f n xs → take (k - 0) ys ≡ map f (range_with_len 0 n)
front f k n xs ys p e =
    ap (λ (zs : List ℕ). take (k - 0) zs) e ∙ ap (λ (j : ℕ). take j (written f n xs)) (omega arith)
    ∙ take_at (map f (range_with_len 0 n)) (drop n xs) n (length-map-range_with_len f 0 n)

-- the columns that were read, as far as the tokens go, hold the file
pub holds : {bytes : List ℕ} {n w : ℕ} {before after : Columns} (i : Input) → Reads bytes before after (Ok n) → w ≡ words_for n
    → i.kinds.now ≡ take (n - 0) after.kinds → i.contextual.now ≡ take (n - 0) after.contextual → i.joint.now ≡ take (w - 0) after.joint → i.editions.now ≡ take (n - 0) after.editions
    → HoldsFile bytes n i
holds {bytes} {n} {w} i r e a b c d = record {
  kinds = a ∙ front (kind_of bytes) n n _ _ refl r.kinds_read;
  contextual = b ∙ front (contextual_of bytes) n n _ _ refl r.contextual_read;
  joint = c ∙ front (joint_word bytes n) w (words_for n) _ _ e r.joint_read;
  editions = d ∙ front (edition_of bytes) n n _ _ refl r.editions_read;
}

-- columns that were not opened
pub not_opened : {size : Item → ℕ} {bytes : List ℕ} {s : Heard} {n : ℕ} {e : Unopened} {l : MutBor (List Record)} {r q : Reading} (i : Input) → length bytes ≤ max_bytes
    → read_from bytes ≡ Ok n → HoldsFile bytes n i → length l.now ≡ records → Opens i l r q (Err e) → Lists size bytes s s (Err e.refusal)
not_opened i le o h k (refused v m z) = unopened i le o h (ap (verdict i) (sym k) ∙ v) refl

-- the exit of a `?`, where the log is full
pub not_taken : {size : Item → ℕ} {bytes : List ℕ} {s : Heard} {n : ℕ} {x : Unit {0}} {l : MutBor (List Record)} {r q : Reading} {m : Parser} {e : Refusal} (i : Input) → length bytes ≤ max_bytes
    → read_from bytes ≡ Ok n → HoldsFile bytes n i → length l.now ≡ records → Opens i l r q (Ok x) → TakesAll q.parser m (Err e)
    → (o : Result (Unit {0}) Refusal) → IsErrAnd o (λ f. f ≡ e) → Lists size bytes s s o
not_taken i le c h k (opened v new) (stuck p q) (Ok x) z = absurd z
not_taken i le c h k (opened v new) (stuck p q) (Err f) z = full i p le c h (ap (verdict i) (sym k) ∙ v) (z ∙ q) refl

all_of : {l m : Parser} {x : Unit {0}} → TakesAll l m (Ok x) → AllTaken l m
all_of (taken h) = h

-- the end of the tokens is behind the last one
last_place : (i : Input) (k : ℕ) (p : Parser) → verdict i k ≡ None → env p ≡ env_of i records → kind_at (env p) p.place ≡ EOF → p.place ≤ length p.input.kinds.now → p.place ≡ length i.kinds.now
last_place i k p v e z le = go (cases_lt p.place (length i.kinds.now))
  where
    tokens : length p.input.kinds.now ≡ length i.kinds.now
    tokens = ap (λ (x : Env). length x.kinds) e

    go : (p.place < length i.kinds.now) ⊎ (length i.kinds.now ≤ p.place) → p.place ≡ length i.kinds.now
    go (inl lt) = absurd (no_end i k v p.place lt (sym (ap (λ (x : Env). kind_at x p.place) e) ∙ z))
    go (inr ge) = omega (arith, tokens)

-- A reading that was opened, gone through and told.
pub all_listed : {size : Item → ℕ} {bytes : List ℕ} {s t : Heard} {n : ℕ} {x y : Unit {0}} {marks after : List ℕ} {l : MutBor (List Record)} {r q : Reading} (i : Input) (p : Reading)
    {o : Result (Unit {0}) Refusal} → length bytes ≤ max_bytes → read_from bytes ≡ Ok n → HoldsFile bytes n i → length l.now ≡ records → length marks ≡ records
    → Opens i l r q (Ok x) → TakesAll q.parser p.parser (Ok y) → Walks size (of p.parser).recs marks after s t o → Lists size bytes s t o
all_listed {size} {bytes} {s} {t} {n} {marks = marks} {after} {q = q} i p le c h k m (opened v new) d w = go w
  where
    same : env p.parser ≡ env_of i records
    same = (all_of d).same ∙ new.same ∙ ap (env_of i) k

    tokens : length i.kinds.now ≡ n
    tokens = ap length h.kinds ∙ length-map-range_with_len (kind_of bytes) 0 n

    place : p.parser.place ≡ n
    place = last_place i _ p.parser v same (all_of d).ended p.parser.inside ∙ tokens

    few : length (of p.parser).recs ≤ records
    few = omega (arith, counted p.parser, p.parser.within, ap (λ (e : Env). e.room) same)

    go : {o : Result (Unit {0}) Refusal} → Walks size (of p.parser).recs marks after s t o → Lists size bytes s t o
    go (walked g z u) = told i (of p.parser).recs le c h (ap (verdict i) (sym k) ∙ v) (subst₂ (λ (e : Env) (j : ℕ). Lawful e j (tell (of p.parser).recs)) same place (lawful p)) z
    go (no_marks g e u z) = absurd (omega (arith, few))
