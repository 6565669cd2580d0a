-- The text of a tree: indents and lines.
use Rattle.std.proofs.Common.{◌≡◌, ℕ, zero, suc, ◌+◌, ◌<◌, ◌≤◌, List, ◌++◌, length, get_or, drop, codes, sym, refl, ap, ◌∙◌, append_assoc, append-nil, add-one, arith, drop_of_length-le}
use Rattle.std.proofs.lemmas.List.{drop_more}
use Rattle.event_log.specs.declared.item.Item.{Item}
use Rattle.sinks.specs.declared.table.entry.Entry.{Entry}
use Rattle.sinks.specs.Nodes.{items_in}
use Rattle.reader.specs.Tree.{indent, line, depth_after, lines}

-- ---- indents

pub indent_none : (bs : List ℕ) → bs ≡ bs ++ indent 0
unfolding indent
indent_none bs = sym (append-nil bs)

indent_push : (d : ℕ) → indent d ++ codes "    " ≡ indent (suc d)
unfolding indent
indent_push zero = refl
indent_push (suc d) = append_assoc (codes "    ") (indent d) (codes "    ") ∙ ap (λ (bs : List ℕ). codes "    " ++ bs) (indent_push d)

pub indent_more : (ts us vs : List ℕ) (d : ℕ) → us ≡ ts ++ indent d → vs ≡ us ++ codes "    " → vs ≡ ts ++ indent (d + 1)
indent_more ts us vs d h g =
    g ∙ ap (λ (xs : List ℕ). xs ++ codes "    ") h ∙ append_assoc ts (indent d) (codes "    ") ∙ ap (λ (xs : List ℕ). ts ++ xs) (indent_push d ∙ ap indent (sym (add-one d)))

-- ---- lines

pub depth_low : (d : ℕ) (x : Item) → depth_after d x ≤ d + 1
depth_low d x = grind arith

-- one entry more
pub lines_more : (ts us : List ℕ) (d e : ℕ) (es : List Entry) (i : ℕ) (z : Entry) → i < length es → us ≡ ts ++ line d (get_or es i z).item → e ≡ depth_after d (get_or es i z).item
    → us ++ lines e (items_in (drop (i + 1) es)) ≡ ts ++ lines d (items_in (drop i es))
unfolding lines
lines_more ts us d e es i z lt h g =
    let x = (get_or es i z).item in
    (λ j. h j ++ lines (g j) (items_in (drop (i + 1) es)))
    ∙ append_assoc ts (line d x) (lines (depth_after d x) (items_in (drop (i + 1) es)))
    ∙ ap (λ (fs : List Entry). ts ++ lines d (items_in fs)) (sym (drop_more es i z lt))

-- none is left
pub lines_all : (ts : List ℕ) (d : ℕ) (es : List Entry) (i : ℕ) → length es ≤ i → ts ++ lines d (items_in (drop i es)) ≡ ts
unfolding lines
lines_all ts d es i le = ap (λ (fs : List Entry). ts ++ lines d (items_in fs)) (drop_of_length-le es le) ∙ append-nil ts
