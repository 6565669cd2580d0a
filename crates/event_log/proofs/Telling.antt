-- The records of a forest tell what the forest tells.
use Rattle.std.proofs.Common.{◌≡◌, ℕ, zero, suc, ◌+◌, ◌<◌, Bool, true, false, List, [], ◌∷◌, ◌++◌, length, Some, None, Option, sym, refl, ap, ◌∙◌, append_assoc, append-nil, not-suc-le-zero, arith, length-append}
use Rattle.std.proofs.lemmas.List.{map-append}
use Rattle.event_log.specs.declared.event.Record.{Record}
use Rattle.event_log.specs.declared.event.Record.TheVariants.{Start, Finish, Token, Error}
use Rattle.event_log.specs.Forest.{Tree, Node, Forest, ◌<>◌, flat, flat_node, flats, own, left_in}
use Rattle.event_log.specs.Forest.Tree.{token, error, whole, gone}
use Rattle.event_log.specs.Forest.Node.{node, wrap}
use Rattle.event_log.specs.Forest.Forest.{nil, cons}
use Rattle.event_log.specs.declared.item.Item.{Item}
use Rattle.event_log.specs.declared.item.Item.TheVariants.{Enter as enter, Leave as leave, Token as told_token, Error as told_error}
use Rattle.event_log.specs.Told.{told_tree, told_node, told, KindsTree, KindsNode, Kinds}
use Rattle.event_log.specs.Tell.{nearer, climb, use_up, enter_unless_0, enters, tell_from, unused, tell, joined, tell_each}

-- ---- forests end to end

pub flats_append : (f g : Forest) → flats (f <> g) ≡ flats f ++ flats g
unfolding flats ◌<>◌
flats_append nil g = refl
flats_append (cons t f) g = ap (λ rs. flat t ++ rs) (flats_append f g) ∙ sym (append_assoc (flat t) (flats f) (flats g))

pub told_append : (f g : Forest) → told (f <> g) ≡ told f ++ told g
unfolding told ◌<>◌
told_append nil g = refl
told_append (cons t f) g = ap (λ is. told_tree t ++ is) (told_append f g) ∙ sym (append_assoc (told_tree t) (told f) (told g))

pub kinds_append : (f g : Forest) → Kinds f → Kinds g → Kinds (f <> g)
unfolding ◌<>◌
kinds_append nil g h k = k
kinds_append (cons t f) g h k = (h.0, kinds_append f g h.1 k)

-- ---- chains that lead past some records

pub climb_past : (xs rs : List Record) → climb (Some (length xs)) (xs ++ rs) ≡ climb (Some 0) rs
unfolding climb
climb_past [] rs = refl
climb_past (x ∷ xs) rs = climb_past xs rs

pub use_up_past : (xs rs : List Record) (us : List Bool) → use_up (Some (length xs)) (xs ++ rs) (unused xs ++ us) ≡ unused xs ++ use_up (Some 0) rs us
unfolding use_up
use_up_past [] rs us = refl
use_up_past (x ∷ xs) rs us = ap (λ vs. false ∷ vs) (use_up_past xs rs us)

-- Whether the start of a node has a forward parent, which then lies right behind the node: where that is from the node's end,
-- and where it is from the start, if these records stand between the two.
abbrev onward : Bool → Option ℕ
onward true = Some 0
onward false = None

abbrev led : Bool → List Record → Option ℕ
led true xs = Some (suc (length xs))
led false xs = None

climb_led : (b : Bool) (xs rs : List Record) → climb (nearer (led b xs)) (xs ++ rs) ≡ climb (onward b) rs
unfolding climb
climb_led true xs rs = climb_past xs rs
climb_led false xs rs = refl

use_up_led : (b : Bool) (xs rs : List Record) (us : List Bool) → use_up (nearer (led b xs)) (xs ++ rs) (unused xs ++ us) ≡ unused xs ++ use_up (onward b) rs us
unfolding use_up
use_up_led true xs rs us = use_up_past xs rs us
use_up_led false xs rs us = refl

-- ---- records that tell these items, whatever comes after them

abbrev pub Tells : List Record → List Item → Type 0
Tells xs is = (rs : List Record) (us : List Bool) → tell_from (xs ++ rs) (unused xs ++ us) ≡ is ++ tell_from rs us

tells_append : (xs ys : List Record) (is js : List Item) → Tells xs is → Tells ys js → Tells (xs ++ ys) (is ++ js)
tells_append xs ys is js h k rs us =
    rw (append_assoc xs ys rs, map-append (λ _. false) xs ys, append_assoc (unused xs) (unused ys) us, append_assoc is js (tell_from rs us))
    (h (ys ++ rs) (unused ys ++ us) ∙ ap (λ t. is ++ t) (k rs us))

tells_finish : Tells (Finish ∷ []) (leave ∷ [])
unfolding tell_from joined tell_each
tells_finish rs us = refl

tells_token : (k w : ℕ) → Tells (Token k w ∷ []) (told_token k w ∷ [])
unfolding tell_from joined tell_each
tells_token k w rs us = refl

tells_error : (n k : ℕ) → Tells (Error n k ∷ []) (told_error n k ∷ [])
unfolding tell_from joined tell_each
tells_error n k rs us = refl

-- the start of an abandoned node tells nothing
tells_left_in : (xs : List Record) (is : List Item) → Tells xs is → Tells (left_in xs) is
unfolding left_in tell_from enters climb use_up enter_unless_0 tell_each joined
tells_left_in [] is h rs us = h rs us
tells_left_in (x ∷ xs) is h rs us = h rs us

enters_named : (k : ℕ) (ks : List ℕ) → 0 < k → enters (k ∷ ks) ≡ enters ks ++ (enter k ∷ [])
unfolding enters enter_unless_0
enters_named zero ks h = absurd (not-suc-le-zero h)
enters_named (suc k) ks h = refl

-- ---- the chain of a node

-- what the start of a node tells that may have a forward parent, with what stands in the node
tells_start : (b : Bool) (k : ℕ) (xs : List Record) (is : List Item) → 0 < k → Tells xs is → (rs : List Record) (us : List Bool)
    → tell_from (Start k (led b xs) ∷ (xs ++ rs)) (false ∷ (unused xs ++ us)) ≡ enters (climb (onward b) rs) ++ (enter k ∷ (is ++ tell_from rs (use_up (onward b) rs us)))
unfolding tell_from joined enters tell_each climb
tells_start b k xs is h t rs us =
    rw (climb_led b xs rs, use_up_led b xs rs us, enters_named k (climb (onward b) rs) h, t rs (use_up (onward b) rs us))
    (append_assoc (enters (climb (onward b) rs)) (enter k ∷ []) (is ++ tell_from rs (use_up (onward b) rs us)))

-- the forward parent of a node's own start, where the node's chain goes on right behind it
abbrev parent : Bool → Node → Option ℕ
parent true n = Some (own n)
parent false n = None

-- what stands between a node's own start and its end
abbrev inner : Forest → List Record
inner f = flats f ++ Finish ∷ []

parent_is : (b : Bool) (n : Node) (f : Forest) → own n ≡ 2 + length (flats f) → parent b n ≡ led b (inner f)
parent_is true n f h = ap {B = Option ℕ} Some (omega (arith, h, length-append (flats f) (Finish ∷ [])))
parent_is false n f h = refl

-- A node tells its items, behind the enters of the chain that goes on behind it, and uses that chain up.
abbrev TellsNode : Bool → Node → Type 0
TellsNode b n = (rs : List Record) (us : List Bool)
    → tell_from (flat_node n (parent b n) ++ rs) (unused (flat_node n (parent b n)) ++ us)
    ≡ enters (climb (onward b) rs) ++ (told_node n ++ tell_from rs (use_up (onward b) rs us))

tells_node : (b : Bool) (k : ℕ) (f : Forest) → 0 < k → Tells (flats f) (told f) → TellsNode b (node k f)
unfolding flat_node told_node own
tells_node b k f h t rs us =
    rw (parent_is b (node k f) f refl)
    (tells_start b k (inner f) (told f ++ leave ∷ []) h (tells_append (flats f) (Finish ∷ []) (told f) (leave ∷ []) t tells_finish) rs us)

tells_wrap : (b : Bool) (n : Node) (k : ℕ) (f : Forest) → 0 < k → TellsNode true n → Tells (flats f) (told f) → TellsNode b (wrap n k f)
unfolding flat_node told_node own tell_from climb use_up enters joined tell_each
tells_wrap b n k f h m t rs us =
    let A : List Item = told f ++ leave ∷ [] in
    let X : List Record = flat_node n (Some (own n)) in
    let E : List Item = enters (climb (onward b) rs) in
    let R : List Item = tell_from rs (use_up (onward b) rs us) in
    let s : Tells (inner f) A = tells_append (flats f) (Finish ∷ []) (told f) (leave ∷ []) t tells_finish in
    rw (
      parent_is b (wrap n k f) f refl,
      append_assoc X (Start k (led b (inner f)) ∷ inner f) rs,
      map-append (λ _. false) X (Start k (led b (inner f)) ∷ inner f),
      append_assoc (unused X) (false ∷ unused (inner f)) us,
      m (Start k (led b (inner f)) ∷ (inner f ++ rs)) (false ∷ (unused (inner f) ++ us)),
      climb_led b (inner f) rs,
      use_up_led b (inner f) rs us,
      enters_named k (climb (onward b) rs) h,
      s rs (use_up (onward b) rs us),
      append_assoc E (enter k ∷ []) (told_node n ++ (A ++ R)),
      append_assoc (told_node n) A R,
    )
    refl

mutual
  unfolding flat flats told_tree told climb use_up enters

  tree_tells : (t : Tree) → KindsTree t → Tells (flat t) (told_tree t)
  tree_tells (token k w) h rs us = tells_token k w rs us
  tree_tells (error n k) h rs us = tells_error n k rs us
  tree_tells (whole n) h rs us = node_tells n h false rs us
  tree_tells (gone f) h rs us = tells_left_in (flats f) (told f) (forest_tells f h) rs us

  node_tells : (n : Node) → KindsNode n → (b : Bool) → TellsNode b n
  node_tells (node k f) h b = tells_node b k f h.0 (forest_tells f h.1)
  node_tells (wrap n k f) h b = tells_wrap b n k f h.1 (node_tells n h.0 true) (forest_tells f h.2)

  pub forest_tells : (f : Forest) → Kinds f → Tells (flats f) (told f)
  forest_tells nil h rs us = refl
  forest_tells (cons t f) h rs us = tells_append (flat t) (flats f) (told_tree t) (told f) (tree_tells t h.0) (forest_tells f h.1) rs us

-- ---- the theorems

pub tell_flats : (f : Forest) → Kinds f → tell (flats f) ≡ told f
unfolding tell_from joined tell_each
tell_flats f h =
    let e : tell_from (flats f ++ []) (unused (flats f) ++ []) ≡ told f ++ [] = forest_tells f h [] [] in
    sym (ap (λ rs. tell_from rs (unused (flats f))) (append-nil (flats f)))
    ∙ sym (ap (λ us. tell_from (flats f ++ []) us) (append-nil (unused (flats f))))
    ∙ e ∙ append-nil (told f)

pub tell_flats_append : (f g : Forest) → Kinds f → Kinds g → tell (flats (f <> g)) ≡ told f ++ told g
tell_flats_append f g h k = tell_flats (f <> g) (kinds_append f g h k) ∙ told_append f g
