-- The tokens that a program takes spell the raw tokens, each node of what it comes to has a kind, and it stays inside the raw tokens and the room.
use Rattle.std.proofs.Common.{◌≡◌, ℕ, ◌+◌, ◌<◌, ◌≤◌, true, List, [], ◌∷◌, ◌++◌, length, sym, refl, ap, ◌∙◌, subst, ⊎_elim, append-nil, add-zero, add_assoc, zero-add, arith, le-ltb, lt-ltb, le-leb}
use borrow.Author.Tests.{lt-leb}
use Rattle.std.proofs.lemmas.Bool.{cases_lt}
use Rattle.event_log.specs.Forest.{Tree, Node, Forest, ◌<>◌, flat, flats, wide, wide_node, wides}
use Rattle.event_log.specs.Forest.Tree.{whole, gone}
use Rattle.event_log.specs.Forest.Node.{node, wrap}
use Rattle.event_log.specs.Forest.Forest.{nil, cons}
use Rattle.event_log.specs.Program.{Env, Prog, size, size_node, spells, run}
use Rattle.event_log.specs.Program.Out.{ok}
use Rattle.event_log.specs.declared.item.Item.{Item}
use Rattle.event_log.specs.declared.item.Item.TheVariants.{Enter as enter, Leave as leave, Token as token, Error as error}
use Rattle.event_log.specs.Told.{told_tree, told_node, told, KindsNode}
use Rattle.event_log.specs.Spelling.{Spelled, width, holding, Fine}
use Rattle.event_log.proofs.Telling.{told_append, kinds_append}
use Rattle.event_log.proofs.Sizes.{size_append, wides_append, size_one, wides_one, length_left_in, size_of_node, size_of_wrap}
use Rattle.event_log.proofs.Ahead.{spelt_within}
use Rattle.event_log.proofs.Induction.{Kept, OnOk, keep}

-- ---- items end to end

pub width_append : (is js : List Item) → width (is ++ js) ≡ width is + width js
unfolding width
width_append [] js = sym (zero-add (width js))
width_append (enter k ∷ is) js = width_append is js
width_append (leave ∷ is) js = width_append is js
width_append (token k w ∷ is) js = ap (λ x. w + x) (width_append is js) ∙ sym (add_assoc w (width is) (width js))
width_append (error n k ∷ is) js = width_append is js

pub spelled_append : (e : Env) (i : ℕ) (is js : List Item) → Spelled e i is → Spelled e (i + width is) js → Spelled e i (is ++ js)
unfolding width
spelled_append e i [] js h k = rw add-zero at k
spelled_append e i (enter n ∷ is) js h k = spelled_append e i is js h k
spelled_append e i (leave ∷ is) js h k = spelled_append e i is js h k
spelled_append e i (token n w ∷ is) js h k = (h.0, spelled_append e (i + w) is js h.1 (rw (← (add_assoc i w (width is))) at k))
spelled_append e i (error n m ∷ is) js h k = spelled_append e i is js h k

-- what comes last holds no raw token
spelled_leave : (e : Env) (i : ℕ) (is : List Item) → Spelled e i is → Spelled e i (is ++ leave ∷ [])
spelled_leave e i is h = spelled_append e i is (leave ∷ []) h tt

-- ---- what each step keeps

pub record FineNode (e : Env) (c i : ℕ) (n : Node) : Type 0 where
  pub spelled : Spelled e i (told_node n)
  pub measured : width (told_node n) ≡ wide_node n
  pub named : KindsNode n
  pub inside : i ≤ length e.kinds → i + wide_node n ≤ length e.kinds
  pub fits : c ≤ e.room → c + size_node n ≤ e.room

pub fine_nothing : (e : Env) (c i : ℕ) → Fine e c i nil
unfolding told wides width flats
fine_nothing e c i = record { spelled = tt; measured = refl; named = tt; inside = λ h. omega arith; fits = λ h. omega arith }

pub fine_append : (e : Env) (c i : ℕ) (f g : Forest) → Fine e c i f → Fine e (c + size f) (i + wides f) g → Fine e c i (f <> g)
fine_append e c i f g h k =
    let m : width (told f) ≡ wides f = h.measured in
    record {
      spelled = rw (told_append f g) (spelled_append e i (told f) (told g) h.spelled (rw m k.spelled));
      measured = rw (told_append f g, width_append (told f) (told g), m, k.measured, wides_append f g);
      named = kinds_append f g h.named k.named;
      inside = λ l. rw (wides_append f g) (let r = k.inside (h.inside l) in omega arith);
      fits = λ l. rw (size_append f g) (let r = k.fits (h.fits l) in omega arith);
    }

fine_token : (e : Env) (c i k w : ℕ) → spells e i k w ≡ true → c < e.room → Fine e c i (cons (Tree.token k w) nil)
unfolding told_tree wide flat width
fine_token e c i k w s r = record {
  spelled = (s, tt);
  measured = omega arith;
  named = (tt, tt);
  inside = λ l. rw (wides_one (Tree.token k w)) (spelt_within e i k w s);
  fits = λ l. rw (size_one (Tree.token k w)) (omega arith);
}

fine_error : (e : Env) (c i n k : ℕ) → c < e.room → Fine e c i (cons (Tree.error n k) nil)
unfolding told_tree wide flat width
fine_error e c i n k r = record {
  spelled = tt;
  measured = refl;
  named = (tt, tt);
  inside = λ l. rw (wides_one (Tree.error n k)) (omega arith);
  fits = λ l. rw (size_one (Tree.error n k)) (omega arith);
}

fine_gone : (e : Env) (c i : ℕ) (f : Forest) → c < e.room → Fine e (c + 1) i f → Fine e c i (cons (gone f) nil)
unfolding told_tree wide flat
fine_gone e c i f r h =
    record {
      spelled = spelled_append e i (told f) [] h.spelled tt;
      measured = rw (append-nil (told f), wides_one (gone f)) h.measured;
      named = (h.named, tt);
      inside = λ l. rw (wides_one (gone f)) (h.inside l);
      fits = λ l. rw (size_one (gone f)) (let k = h.fits (omega arith) in omega (arith, length_left_in (flats f)));
    }

fine_whole : (e : Env) (c i : ℕ) (n : Node) → FineNode e c i n → Fine e c i (cons (whole n) nil)
unfolding told_tree wide flat
fine_whole e c i n h = record {
  spelled = spelled_append e i (told_node n) [] h.spelled tt;
  measured = rw (append-nil (told_node n), wides_one (whole n)) h.measured;
  named = (h.named, tt);
  inside = λ l. rw (wides_one (whole n)) (h.inside l);
  fits = λ l. rw (size_one (whole n)) (h.fits l);
}

fine_node : (e : Env) (c i k : ℕ) (f : Forest) → c < e.room → Fine e (c + 1) i f → 0 < k → c + 1 + size f < e.room → FineNode e c i (node k f)
unfolding told_node wide_node width
fine_node e c i k f r h z l = record {
  spelled = spelled_leave e i (told f) h.spelled;
  measured = rw (width_append (told f) (leave ∷ [])) (omega (arith, h.measured));
  named = (z, h.named);
  inside = λ x. h.inside x;
  fits = λ x. rw (size_of_node k f) (omega arith);
}

fine_wrap : (e : Env) (c i : ℕ) (n : Node) (k : ℕ) (f : Forest) → FineNode e c i n → c + size_node n < e.room → Fine e (c + size_node n + 1) (i + wide_node n) f
    → 0 < k → c + size_node n + 1 + size f < e.room → FineNode e c i (wrap n k f)
unfolding told_node wide_node width
fine_wrap e c i n k f q r h z l =
    let m : width (told_node n) ≡ wide_node n = q.measured in
    record {
      spelled = spelled_append e i (told_node n) (told f ++ leave ∷ []) q.spelled (spelled_leave e (i + width (told_node n)) (told f) (rw m h.spelled));
      measured = rw (width_append (told_node n) (told f ++ leave ∷ []), width_append (told f) (leave ∷ [])) (omega (arith, m, h.measured));
      named = (q.named, z, h.named);
      inside = λ x. let y = h.inside (q.inside x) in omega arith;
      fits = λ x. rw (size_of_wrap n k f) (omega arith);
    }

-- ---- the theorem

pub kept_fine : (e : Env) → Kept e (Fine e) (FineNode e)
kept_fine e = record {
  nothing = fine_nothing e;
  append = fine_append e;
  of_token = fine_token e;
  of_error = fine_error e;
  of_gone = fine_gone e;
  of_whole = fine_whole e;
  of_node = fine_node e;
  of_wrap = fine_wrap e;
}

pub runs_fine : {A : Type 0} (m : Prog A) (e : Env) (c i : ℕ) → OnOk (Fine e c i) (run m e c i)
runs_fine m e c i = keep e (Fine e) (FineNode e) (kept_fine e) m c i

pub run_fine : {A : Type 0} (m : Prog A) (e : Env) (c i : ℕ) (f : Forest) (a : A) → run m e c i ≡ ok f a → Fine e c i f
run_fine m e c i f a h = subst (OnOk (Fine e c i)) h (runs_fine m e c i)

-- ---- each raw token is held by exactly one token, whatever the items

pub holding_before : (p : ℕ) (is : List Item) (i : ℕ) → p < i → holding p is i ≡ 0
unfolding holding
holding_before p [] i h = refl
holding_before p (enter k ∷ is) i h = holding_before p is i h
holding_before p (leave ∷ is) i h = holding_before p is i h
holding_before p (token k w ∷ is) i h = rw (lt-leb i p h) (omega (arith, holding_before p is (i + w) (omega arith)))
holding_before p (error n k ∷ is) i h = holding_before p is i h

pub held_once : (p : ℕ) (is : List Item) (i : ℕ) → i ≤ p → p < i + width is → holding p is i ≡ 1
unfolding holding width
held_once p [] i h l = absurd (omega arith)
held_once p (enter k ∷ is) i h l = held_once p is i h l
held_once p (leave ∷ is) i h l = held_once p is i h l
held_once p (token k w ∷ is) i h l =
    ⊎_elim (λ x. rw (le-leb i p h, lt-ltb p (i + w) x) (omega (arith, holding_before p is (i + w) x)))
    (λ x. rw (le-leb i p h, le-ltb p (i + w) x) (omega (arith, held_once p is (i + w) x (omega arith))))
    (cases_lt p (i + w))
held_once p (error n k ∷ is) i h l = held_once p is i h l

pub held_by_none : (p : ℕ) (is : List Item) (i : ℕ) → i + width is ≤ p → holding p is i ≡ 0
unfolding holding width
held_by_none p [] i h = refl
held_by_none p (enter k ∷ is) i h = held_by_none p is i h
held_by_none p (leave ∷ is) i h = held_by_none p is i h
held_by_none p (token k w ∷ is) i h = rw (le-leb i p (omega arith), le-ltb p (i + w) (omega arith)) (omega (arith, held_by_none p is (i + w) (omega arith)))
held_by_none p (error n k ∷ is) i h = held_by_none p is i h
