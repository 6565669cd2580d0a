-- A column whose front was written, and what is then in it.
use Rattle.std.proofs.Common.{◌≡◌, ℕ, ◌<◌, ◌≤◌, List, ◌++◌, map, length, get_or, take, drop, sym, ◌∙◌, ap₂, arith, length-take}
use Rattle.std.specs.List.{range_with_len}
use Rattle.std.proofs.lemmas.List.FromFn.{length-map-range_with_len, get_or-map-range_with_len, fill_by_all}
use Rattle.std.proofs.lemmas.List.{get_or_append_left, get_or-take, take-append-drop}
use Rattle.file.specs.TokenFile.{written}

-- n entries are those of f, and the others are as they were
pub written_by : (f : ℕ → ℕ) (n : ℕ) (xs ys : List ℕ) → n ≤ length ys → ((i d : ℕ) → i < n → get_or ys i d ≡ f i) → drop n ys ≡ drop n xs → ys ≡ written f n xs
written_by f n xs ys le front rest =
    let e : take n ys ≡ map f (range_with_len 0 n) =
    fill_by_all f (take n ys) n 0 (omega (arith, length-take n ys)) (λ k h. get_or-take n ys k 0 h ∙ front k 0 h) in
    sym (take-append-drop n ys) ∙ ap₂ ◌++◌ e rest

-- an entry that was written
pub written_at : (f : ℕ → ℕ) (n i : ℕ) (column : List ℕ) → i < n → get_or (written f n column) i 0 ≡ f i
written_at f n i column h =
    get_or_append_left (map f (range_with_len 0 n)) (drop n column) 0 i (omega (arith, length-map-range_with_len f 0 n))
    ∙ get_or-map-range_with_len f 0 n i i 0 h (omega arith)
