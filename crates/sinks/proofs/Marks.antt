-- The marks of a walk: one for each record, and others that it leaves alone.
use Rattle.std.proofs.Common.{◌≡◌, ℕ, ◌<◌, ◌≤◌, true, false, List, map, length, get_or, take, drop, set, replicate, sym, refl, ap, ◌∙◌, length-take, length-take-le, arith, take_at, drop_at}
use lib.ListN.{length-map, length-replicate}
use lib.Seq.{map-set, take-set-lt}
use Rattle.std.proofs.lemmas.List.{get_or-map, get_or-take}
use Rattle.std.proofs.lemmas.Simd.{splat_is_map, map-map}
use Rattle.event_log.specs.declared.event.Record.{Record}
use Rattle.event_log.specs.Tell.{unused}
use Rattle.sinks.specs.Walk.{cleared, is_used, used}

-- one start more is used
pub used_set : (n : ℕ) (l : List ℕ) (i : ℕ) → i < n → used n (set l i 1) ≡ set (used n l) i true
used_set n l i h = ap (map is_used) (take-set-lt n l i 1 h) ∙ map-set is_used (take n l) i 1

pub length_used : (n : ℕ) (l : List ℕ) → n ≤ length l → length (used n l) ≡ n
length_used n l h = length-map (take n l) is_used ∙ length-take-le n l h

pub used_at : (n : ℕ) (l : List ℕ) (i : ℕ) → i < n → n ≤ length l → get_or (used n l) i false ≡ is_used (get_or l i 0)
used_at n l i h k =
    get_or-map is_used (take n l) i 0 false (rw (length-take-le n l k) h) ∙ ap is_used (get_or-take n l i 0 h)

-- where each record has a mark that says so, there are enough of them
pub enough : (rs : List Record) (l : List ℕ) → used (length rs) l ≡ unused rs → length rs ≤ length l
enough rs l e =
    let all : length (take (length rs) l) ≡ length rs =
    sym (length-map (take (length rs) l) is_used) ∙ ap length e ∙ length-map rs (λ _. false) in
    omega (arith, all, length-take (length rs) l)

pub used_none : (rs : List Record) (l : List ℕ) → used (length rs) (cleared (length rs) l) ≡ unused rs
used_none rs l =
    ap (map is_used)
    (take_at (replicate (length rs) 0) (drop (length rs) l) (length rs) (length-replicate (length rs) 0) ∙ splat_is_map rs (length rs) 0 refl)
    ∙ map-map is_used (λ _. 0) rs

pub drop_cleared : (n : ℕ) (l : List ℕ) → drop n (cleared n l) ≡ drop n l
drop_cleared n l = drop_at (replicate n 0) (drop n l) n (length-replicate n 0)
