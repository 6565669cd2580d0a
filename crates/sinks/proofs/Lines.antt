-- What reading a line gives: its item, after what was read before.
use Rattle.std.proofs.Common.{◌≡◌, ℕ, ◌+◌, ◌*◌, ◌/◌, ◌%◌, ◌^◌, ◌<◌, List, [], ◌∷◌, ◌++◌, decimal, fold, sym, refl, ap, ◌∙◌, append_assoc, append-nil, arith}
use Rattle.std.proofs.lemmas.Fmt.{decimal_by_steps}
use Rattle.std.proofs.lemmas.List.Sums.{fold-append, fold_push}
use Rattle.std.proofs.lemmas.Bool.Decides.{nat_tests}
use Rattle.event_log.specs.declared.item.Item.{Item}
use Rattle.event_log.specs.declared.item.Item.TheVariants.{Enter, Leave, Token, Error}
use Rattle.sinks.specs.Lines.{line, listing, spaced, newline, Small, Reading, so_far, tagged, is_digit, step, read}

-- a digit goes on with the number
step_digit : (is : List Item) (t m n d : ℕ) → d < 10 → step (so_far is t m n) (48 + d) ≡ so_far is t m (10 * n + d)
unfolding step is_digit
step_digit is t m n d h = grind (arith, nat_tests)

-- after a decimal number it is the number that came last
reads_decimal : (is : List Item) (t m n : ℕ) → n < 2 ^ 64 → fold step (so_far is t m 0) (decimal n) ≡ so_far is t m n
reads_decimal is t m n h =
    decimal_by_steps (λ n ds. fold step (so_far is t m 0) ds ≡ so_far is t m n)
    (λ n small. step_digit is t m 0 n small ∙ ap (so_far is t m) (omega arith))
    (λ n ds big before. fold_push step (so_far is t m 0) ds (48 + n % 10)
    ∙ ap (λ (r : Reading). step r (48 + n % 10)) before
    ∙ step_digit is t m (n / 10) (n % 10) (omega arith)
    ∙ ap (so_far is t m) (omega arith))
    n h

-- a line ends after one number, or after two
reads_one : (is : List Item) (t m n : ℕ) → n < 2 ^ 64 → (fold step (so_far is t m 0) (decimal n ++ newline)).items ≡ is ++ tagged t m n ∷ []
unfolding step
reads_one is t m n h =
    ap (λ (r : Reading). r.items) (fold-append step (so_far is t m 0) (decimal n) newline)
    ∙ ap (λ (r : Reading). (fold step r newline).items) (reads_decimal is t m n h)

reads_two : (is : List Item) (t l m n : ℕ) → m < 2 ^ 64 → n < 2 ^ 64
    → (fold step (so_far is t l 0) (decimal m ++ spaced n ++ newline)).items ≡ is ++ tagged t m n ∷ []
unfolding step
reads_two is t l m n g h =
    ap (λ (r : Reading). r.items)
    (ap (fold step (so_far is t l 0)) (append_assoc (decimal m) (spaced n) newline)
    ∙ fold-append step (so_far is t l 0) (decimal m) (spaced n ++ newline))
    ∙ ap (λ (r : Reading). (fold step r (spaced n ++ newline)).items) (reads_decimal is t l m g)
    ∙ reads_one is t m n h

reads_line : (is : List Item) (t m n : ℕ) (x : Item) → Small x → (fold step (so_far is t m n) (line x)).items ≡ is ++ x ∷ []
unfolding step is_digit tagged
reads_line is t m n (Enter k) h = reads_one is 43 n k (omega arith)
reads_line is t m n Leave h = refl
reads_line is t m n (Token k w) h = reads_two is 61 n k w (omega arith) (omega arith)
reads_line is t m n (Error e k) h = reads_two is 33 n e k (omega arith) (omega arith)

listing_more : (is : List Item) (x : Item) → listing (is ++ x ∷ []) ≡ listing is ++ line x
unfolding listing
listing_more [] x = append-nil (line x)
listing_more (y ∷ is) x = ap (λ (bs : List ℕ). line y ++ bs) (listing_more is x) ∙ sym (append_assoc (line y) (listing is) (line x))

-- the line of an item after these
module _ (bs cs : List ℕ) (x : Item) (small : Small x) (new : cs ≡ bs ++ line x) where
  pub read_after : read cs ≡ read bs ++ x ∷ []
  unfolding read
  read_after =
      let start = so_far [] 0 0 0 in
      let r = fold step start bs in
      ap read new ∙ ap (λ (r : Reading). r.items) (fold-append step start bs (line x)) ∙ reads_line r.items r.tag r.first r.second x small

  pub listed_after : bs ≡ listing (read bs) → cs ≡ listing (read cs)
  listed_after before =
      new ∙ ap (λ (ds : List ℕ). ds ++ line x) before ∙ sym (listing_more (read bs) x) ∙ ap listing (sym read_after)
