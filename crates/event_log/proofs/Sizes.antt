-- How many records and how many raw tokens a forest, a tree and a node come to.
use Rattle.std.proofs.Common.{◌≡◌, ℕ, suc, ◌+◌, ◌≤◌, List, [], ◌∷◌, ◌++◌, length, Some, None, Option, sym, refl, ap, ◌∙◌, append-nil, add_assoc, zero-add, arith, length-append}
use Rattle.event_log.specs.declared.event.Record.{Record}
use Rattle.event_log.specs.declared.event.Record.TheVariants.{Start, Finish}
use Rattle.event_log.specs.Forest.{Tree, Node, Forest, ◌<>◌, flat, flat_node, flats, own, left_in, wide, wides}
use Rattle.event_log.specs.Forest.Node.{node, wrap}
use Rattle.event_log.specs.Forest.Forest.{nil, cons}
use Rattle.event_log.specs.Program.{size, size_node}
use Rattle.event_log.proofs.Telling.{flats_append}

pub size_append : (f g : Forest) → size (f <> g) ≡ size f + size g
size_append f g = ap length (flats_append f g) ∙ length-append (flats f) (flats g)

pub wides_append : (f g : Forest) → wides (f <> g) ≡ wides f + wides g
unfolding wides ◌<>◌
wides_append nil g = sym (zero-add (wides g))
wides_append (cons t f) g = ap (λ w. wide t + w) (wides_append f g) ∙ sym (add_assoc (wide t) (wides f) (wides g))

-- one tree alone
pub size_one : (t : Tree) → size (cons t nil) ≡ length (flat t)
unfolding flats
size_one t = ap length (append-nil (flat t))

pub wides_one : (t : Tree) → wides (cons t nil) ≡ wide t
unfolding wides
wides_one t = omega arith

pub length_left_in : (xs : List Record) → length (left_in xs) ≤ suc (length xs)
unfolding left_in
length_left_in [] = omega arith
length_left_in (x ∷ xs) = omega arith

-- a node has as many records, whatever its forward parent
pub length_flat_node : (n : Node) (fp : Option ℕ) → length (flat_node n fp) ≡ size_node n
unfolding flat_node
length_flat_node (node k f) fp = refl
length_flat_node (wrap n k f) fp =
    length-append (flat_node n (Some (own n))) (Start k fp ∷ (flats f ++ Finish ∷ []))
    ∙ sym (length-append (flat_node n (Some (own n))) (Start k None ∷ (flats f ++ Finish ∷ [])))

pub size_of_node : (k : ℕ) (f : Forest) → size_node (node k f) ≡ 2 + size f
unfolding flat_node
size_of_node k f = rw (length-append (flats f) (Finish ∷ [])) (omega arith)

pub size_of_wrap : (n : Node) (k : ℕ) (f : Forest) → size_node (wrap n k f) ≡ size_node n + (2 + size f)
unfolding flat_node
size_of_wrap n k f =
    rw (length-append (flat_node n (Some (own n))) (Start k None ∷ (flats f ++ Finish ∷ [])), length-append (flats f) (Finish ∷ []), length_flat_node n (Some (own n)))
    (omega arith)
