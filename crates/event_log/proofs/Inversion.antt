-- What a program went through that came to an answer.
use Rattle.std.proofs.Common.{◌≡◌, ℕ, zero, suc, ◌+◌, ◌<◌, Bool, true, false, cond, ◌⊎◌, Some, None, Option, sym, refl, ap, ◌∙◌, subst, inl, inr, ⊎_elim, arith}
use Rattle.std.proofs.lemmas.Option.{none-some}
use Rattle.std.proofs.lemmas.Bool.{cond_both}
use Rattle.refusals.specs.declared.Refusal.{Refusal}
use Rattle.event_log.specs.Forest.{Node, Forest, ◌<>◌, wides, wide_node, kind_of}
use Rattle.event_log.specs.Forest.Tree.{token, error, whole, gone}
use Rattle.event_log.specs.Forest.Node.{node, wrap}
use Rattle.event_log.specs.Forest.Forest.{nil, cons}
use Rattle.event_log.specs.Program.{Env, Prog, Wraps, Turn, Out, Held, size, size_node, spells, grow, next, record_due, completed, turned, spin, turns}
use Rattle.event_log.specs.Program.{on_node, wind, wrapped, in_forest, closed, run, precede}
use Rattle.event_log.specs.Program.Prog.{give, stop, ◌>>=◌, here, take, fault, chain, repeat}
use Rattle.event_log.specs.Program.Wraps.{end, see, ◌>-◌, around, many}
use Rattle.event_log.specs.Program.Turn.{again, done}
use Rattle.event_log.specs.Program.Out.{ok, no, never}
use Rattle.event_log.proofs.Induction.{on_due, on_completed}
use Rattle.event_log.specs.Traces.{Bound, Spun, WrappedBy, Wound, ThenBy, Completed, Abandoned, Answers, Ends}
use Rattle.event_log.specs.Traces.Spun.{last_turn, turn}
use Rattle.event_log.specs.Traces.Wound.{enough, one_more}

-- ---- answers and refusals apart

no≢ok : {A : Type 0} {r : Refusal} {f : Forest} {a : A} → ◌≡◌ {A = Out A} (no r) (ok f a) → ⊥
no≢ok {A = A} h = let z : ◌≡◌ {A = ℕ} 0 1 = cc in omega arith

never≢ok : {A : Type 0} {f : Forest} {a : A} → ◌≡◌ {A = Out A} never (ok f a) → ⊥
never≢ok {A = A} h = let z : ◌≡◌ {A = ℕ} 0 1 = cc in omega arith

ok_forest : {A : Type 0} {f g : Forest} {a b : A} → ◌≡◌ {A = Out A} (ok f a) (ok g b) → f ≡ g
ok_forest h = cc

ok_answer : {A : Type 0} {f g : Forest} {a b : A} → ◌≡◌ {A = Out A} (ok f a) (ok g b) → a ≡ b
ok_answer h = cc

pub nil_right : (f : Forest) → f <> nil ≡ f
unfolding ◌<>◌
nil_right nil = refl
nil_right (cons t f) = ap (cons t) (nil_right f)

-- ---- a record more

due_ok : {A : Type 0} (e : Env) (c i : ℕ) (o : Out A) (f : Forest) (a : A) → record_due e c i o ≡ ok f a → (c < e.room) × (o ≡ ok f a)
due_ok e c i o f a h = on_due (λ x. x ≡ ok f a → (c < e.room) × (o ≡ ok f a)) (λ r x. absurd (no≢ok x)) e c i o (λ l x. (l, x)) h

completed_ok : {A : Type 0} (e : Env) (k c i : ℕ) (o : Out A) (f : Forest) (a : A) → completed e k c i o ≡ ok f a → (0 < k) × (c < e.room) × (o ≡ ok f a)
completed_ok e k c i o f a h =
    on_completed (λ x. x ≡ ok f a → (0 < k) × (c < e.room) × (o ≡ ok f a)) (λ r x. absurd (no≢ok x)) (λ x. absurd (never≢ok x)) e k c i o (λ z l x. (z, l, x)) h

-- ---- the steps

pub give_ok : {A : Type 0} (x : A) (e : Env) (c i : ℕ) (f : Forest) (a : A) → run (give x) e c i ≡ ok f a → (f ≡ nil) × (a ≡ x)
unfolding run
give_ok x e c i f a h = (sym (ok_forest h), sym (ok_answer h))

pub stop_ok : {A : Type 0} (refusal : ℕ → Refusal) (e : Env) (c i : ℕ) (f : Forest) (a : A) → run (stop refusal) e c i ≡ ok f a → ⊥
unfolding run
stop_ok refusal e c i f a h = no≢ok h

pub here_ok : {A : Type 0} (g : Env → ℕ → Prog A) (e : Env) (c i : ℕ) (f : Forest) (a : A) → run (here g) e c i ≡ ok f a → run (g e i) e c i ≡ ok f a
unfolding run
here_ok g e c i f a h = h

-- a choice between two programs
pub if_ok : {A : Type 0} (b : Bool) (m n : Prog A) (e : Env) (c i : ℕ) (f : Forest) (a : A) → run (cond b m n) e c i ≡ ok f a
    → ((b ≡ true) × (run m e c i ≡ ok f a)) ⊎ ((b ≡ false) × (run n e c i ≡ ok f a))
if_ok true m n e c i f a h = inl (refl, h)
if_ok false m n e c i f a h = inr (refl, h)

pub take_ok : (k w : ℕ) (e : Env) (c i : ℕ) (f : Forest) (u : Unit {0}) → run (take k w) e c i ≡ ok f u → (spells e i k w ≡ true) × (c < e.room) × (f ≡ cons (token k w) nil)
unfolding run
take_ok k w e c i f u h =
    cond_both (spells e i k w) (record_due e c i (ok (cons (token k w) nil) (tt {0}))) never (λ o. o ≡ ok f u → (spells e i k w ≡ true) × (c < e.room) × (f ≡ cons (token k w) nil))
    (λ t x. let r = due_ok e c i (ok (cons (token k w) nil) (tt {0})) f u x in (t, r.0, sym (ok_forest r.1)))
    (λ t x. absurd (never≢ok x))
    h

pub fault_ok : (n k : ℕ) (e : Env) (c i : ℕ) (f : Forest) (u : Unit {0}) → run (fault n k) e c i ≡ ok f u → (c < e.room) × (f ≡ cons (error n k) nil)
unfolding run
fault_ok n k e c i f u h = let r = due_ok e c i (ok (cons (error n k) nil) (tt {0})) f u h in (r.0, sym (ok_forest r.1))

grow_ok : {A : Type 0} (f : Forest) (o : Out A) (h : Forest) (a : A) → grow f o ≡ ok h a → (g : Forest) × (o ≡ ok g a) × (h ≡ f <> g)
unfolding grow
grow_ok f (ok g b) h a x = (g, ap (ok g) (ok_answer x), sym (ok_forest x))
grow_ok f (no r) h a x = absurd (no≢ok x)
grow_ok f never h a x = absurd (never≢ok x)

-- the parts of `next`
next_ok : {A B : Type 0} (o : Out A) (k : A → ℕ → ℕ → Out B) (c i : ℕ) (h : Forest) (b : B) → next o k c i ≡ ok h b
    → (f : Forest) × (a : A) × (g : Forest) × (o ≡ ok f a) × (k a (c + size f) (i + wides f) ≡ ok g b) × (h ≡ f <> g)
unfolding next
next_ok (ok f a) k c i h b x = let r = grow_ok f (k a (c + size f) (i + wides f)) h b x in (f, a, r.0, refl, r.1, r.2)
next_ok (no r) k c i h b x = absurd (no≢ok x)
next_ok never k c i h b x = absurd (never≢ok x)

pub bind_ok : {A B : Type 0} (m : Prog A) (k : A → Prog B) (e : Env) (c i : ℕ) (h : Forest) (b : B) → run (m >>= k) e c i ≡ ok h b → Bound m k e c i h b
unfolding run
bind_ok m k e c i h b x =
    let r = next_ok (run m e c i) (λ a. run (k a) e) c i h b x in
    record { first = r.0; answered = r.1; second = r.2; ran = r.3; went_on = r.4; joined = r.5 }

-- ---- loops

spin_spun : {S : Type 0} (n : ℕ) (b : S → Prog (Turn S)) (e : Env) (s : S) (c i : ℕ) (f : Forest) (z : S) → spin n (λ x. run (b x) e) s c i ≡ ok f z → Spun b e s c i f z
unfolding spin turned
spin_spun zero b e s c i f z x = absurd (never≢ok x)
spin_spun {S = S} (suc n) b e s c i f z x =
    let r = next_ok (run (b s) e c i) (λ t. turned t (spin n (λ y. run (b y) e))) c i f z x in
    go r.0 r.1 r.2 r.3 r.4 r.5 (λ t g. spin_spun n b e t (c + size r.0) (i + wides r.0) g z)
  where
    go : (f₁ : Forest) (t : Turn S) (g : Forest) → run (b s) e c i ≡ ok f₁ t → turned t (spin n (λ y. run (b y) e)) (c + size f₁) (i + wides f₁) ≡ ok g z → f ≡ f₁ <> g
        → ((y : S) (g : Forest) → spin n (λ y. run (b y) e) y (c + size f₁) (i + wides f₁) ≡ ok g z → Spun b e y (c + size f₁) (i + wides f₁) g z) → Spun b e s c i f z
    go f₁ (again y) g p q j ih = rw j (turn p (ih y g q))
    go f₁ (done y) g p q j ih =
        let a : f ≡ f₁ = j ∙ ap (λ h. f₁ <> h) (sym (ok_forest q)) ∙ nil_right f₁ in
        let d : y ≡ z = ok_answer q in
        rw a (last_turn (p ∙ ap (λ v. ok f₁ (done v)) d))

pub repeat_ok : {S : Type 0} (b : S → Prog (Turn S)) (s : S) (e : Env) (c i : ℕ) (f : Forest) (z : S) → run (repeat b s) e c i ≡ ok f z → Spun b e s c i f z
unfolding run
repeat_ok b s e c i f z x = spin_spun (turns e i) b e s c i f z x

-- ---- what precedes a node

on_node_ok : {A B : Type 0} (o : Out (Held A)) (k : A → Node → Out (Held B)) (f : Forest) (h : Held B) → on_node o k ≡ ok f h → (g : Forest) × (x : Held A) × (o ≡ ok g x) × (k x.answer x.held ≡ ok f h)
unfolding on_node
on_node_ok (ok g x) k f h p = (g, x, refl, p)
on_node_ok (no r) k f h p = absurd (no≢ok p)
on_node_ok never k f h p = absurd (never≢ok p)

wrapped_ok : (e : Env) (c i : ℕ) (n : Node) (o : Out ℕ) (f : Forest) (h : Held ℕ) → wrapped e c i n o ≡ ok f h
    → (k : ℕ) × (g : Forest) × (o ≡ ok g k) × (0 < k) × (f ≡ nil) × (h ≡ record { held = wrap n k g; answer = k })
unfolding wrapped
wrapped_ok e c i n (ok g k) f h p =
    let r = completed_ok e k (c + size_node n + 1 + size g) (i + wide_node n + wides g) (ok nil (record { held = wrap n k g; answer = k })) f h p in
    (k, g, refl, r.0, sym (ok_forest r.2), sym (ok_answer r.2))
wrapped_ok e c i n (no r) f h p = absurd (no≢ok p)
wrapped_ok e c i n never f h p = absurd (never≢ok p)

pub end_ok : {A : Type 0} (a : A) (e : Env) (c i : ℕ) (n : Node) (f : Forest) (h : Held A) → precede (end a) e c i n ≡ ok f h → (f ≡ nil) × (h ≡ record { held = n; answer = a })
unfolding precede
end_ok a e c i n f h p = (sym (ok_forest p), sym (ok_answer p))

pub see_ok : {A : Type 0} (g : Env → ℕ → Wraps A) (e : Env) (c i : ℕ) (n : Node) (f : Forest) (h : Held A) → precede (see g) e c i n ≡ ok f h → precede (g e (i + wide_node n)) e c i n ≡ ok f h
unfolding precede
see_ok g e c i n f h p = p

pub around_ok : (b : Prog ℕ) (e : Env) (c i : ℕ) (n : Node) (f : Forest) (h : Held ℕ) → precede (around b) e c i n ≡ ok f h
    → (k : ℕ) × (g : Forest) × WrappedBy b e c i n k g × (f ≡ nil) × (h ≡ record { held = wrap n k g; answer = k })
unfolding precede
around_ok b e c i n f h p =
    let d = due_ok e (c + size_node n) (i + wide_node n) (wrapped e c i n (run b e (c + size_node n + 1) (i + wide_node n))) f h p in
    let r = wrapped_ok e c i n (run b e (c + size_node n + 1) (i + wide_node n)) f h d.1 in
    (r.0, r.1, record { room = d.0; ran = r.2; named = r.3 }, r.4, r.5)

wind_wound : (m : ℕ) (t : Env → ℕ → Bool) (b : Prog ℕ) (e : Env) (c i : ℕ) (n : Node) (g : Forest) (x : Held (Unit {0}))
    → wind m (λ y. t e (i + wide_node y)) (precede (around b) e c i) n ≡ ok g x → Wound t b e c i n x.held × (g ≡ nil)
unfolding wind
wind_wound zero t b e c i n g x p = absurd (never≢ok p)
wind_wound (suc m) t b e c i n g x p = go (t e (i + wide_node n)) refl p (λ y q. wind_wound m t b e c i y g x q)
  where
    go : (v : Bool) → t e (i + wide_node n) ≡ v
        → ◌≡◌ {A = Out (Held (Unit {0}))} (elim v [ true ↦ on_node (precede (around b) e c i n) (λ _. wind m (λ y. t e (i + wide_node y)) (precede (around b) e c i)) | false ↦ ok nil (record { held = n; answer = tt {0} }) ]) (ok g x)
        → ((y : Node) → wind m (λ y. t e (i + wide_node y)) (precede (around b) e c i) y ≡ ok g x → Wound t b e c i y x.held × (g ≡ nil)) → Wound t b e c i n x.held × (g ≡ nil)
    go true u q ih =
        let r = on_node_ok (precede (around b) e c i n) (λ _. wind m (λ y. t e (i + wide_node y)) (precede (around b) e c i)) g x q in
        let s = around_ok b e c i n r.0 r.1 r.2 in
        let y : r.1.held ≡ wrap n s.0 s.1 = ap (λ (z : Held ℕ). z.held) s.4 in
        let z = ih (wrap n s.0 s.1) (ap (wind m (λ y. t e (i + wide_node y)) (precede (around b) e c i)) (sym y) ∙ r.3) in
        (one_more u s.2 z.0, z.1)
    go false u q ih = let y : n ≡ x.held = ap (λ (z : Held (Unit {0})). z.held) (ok_answer q) in (subst (Wound t b e c i n) y (enough u), sym (ok_forest q))

many_wound : (t : Env → ℕ → Bool) (b : Prog ℕ) (e : Env) (c i : ℕ) (n : Node) (f : Forest) (h : Held (Unit {0})) → precede (many t b) e c i n ≡ ok f h → Wound t b e c i n h.held × (f ≡ nil)
unfolding precede
many_wound t b e c i n f h p = wind_wound (turns e (i + wide_node n)) t b e c i n f h p

pub many_ok : (t : Env → ℕ → Bool) (b : Prog ℕ) (e : Env) (c i : ℕ) (n : Node) (f : Forest) (h : Held (Unit {0})) → precede (many t b) e c i n ≡ ok f h → Wound t b e c i n h.held
many_ok t b e c i n f h p = (many_wound t b e c i n f h p).0

after_ok : {A B : Type 0} (w : Wraps A) (v : A → Wraps B) (e : Env) (c i : ℕ) (n : Node) (f : Forest) (h : Held B) → precede (w >- v) e c i n ≡ ok f h
    → (g : Forest) × (x : Held A) × (precede w e c i n ≡ ok g x) × (precede (v x.answer) e c i x.held ≡ ok f h)
unfolding precede
after_ok w v e c i n f h p = on_node_ok (precede w e c i n) (λ a. precede (v a) e c i) f h p

-- What precedes a node leaves no trees beside it.
pub precede_nil : {A : Type 0} (w : Wraps A) (e : Env) (c i : ℕ) (n : Node) (f : Forest) (h : Held A) → precede w e c i n ≡ ok f h → f ≡ nil
precede_nil (end a) e c i n f h p = (end_ok a e c i n f h p).0
precede_nil (see g) e c i n f h p = precede_nil (g e (i + wide_node n)) e c i n f h (see_ok g e c i n f h p)
precede_nil (w >- v) e c i n f h p = let r = after_ok w v e c i n f h p in precede_nil (v r.1.answer) e c i r.1.held f h r.3
precede_nil (around b) e c i n f h p = (around_ok b e c i n f h p).3
precede_nil (many t b) e c i n f h p = (many_wound t b e c i n f h p).1

same_held : {A : Type 0} (o : Out (Held A)) (g : Forest) (h : Held A) → o ≡ ok g h → g ≡ nil → o ≡ ok nil h
same_held o g h p z = p ∙ ap (λ f. ok f h) z

-- one thing after the other
pub then_ok : {A B : Type 0} (w : Wraps A) (v : A → Wraps B) (e : Env) (c i : ℕ) (n : Node) (f : Forest) (h : Held B) → precede (w >- v) e c i n ≡ ok f h → ThenBy w v e c i n h
then_ok w v e c i n f h p =
    let r = after_ok w v e c i n f h p in
    record {
      between = r.1.held;
      answered = r.1.answer;
      first = same_held _ r.0 r.1 r.2 (precede_nil w e c i n r.0 r.1 r.2);
      went_on = same_held _ f h r.3 (precede_nil (v r.1.answer) e c i r.1.held f h r.3);
    }

answers_wrapped : {b : Prog ℕ} {e : Env} {c i : ℕ} {n : Node} {k : ℕ} {f : Forest} → WrappedBy b e c i n k f → Answers b k
answers_wrapped {e = e} {c} {i} {n} {f = f} r = record { tokens = e; records = c + size_node n + 1; place = i + wide_node n; forest = f; ran = r.ran }

-- the kind after a loop is the one before it, or one that its body answers
pub wound_kind : {t : Env → ℕ → Bool} {b : Prog ℕ} {e : Env} {c i : ℕ} {n y : Node} → Wound t b e c i n y → (kind_of y ≡ kind_of n) ⊎ Answers b (kind_of y)
unfolding kind_of
wound_kind (enough p) = inl refl
wound_kind {b = b} (one_more p r w) = ⊎_elim (λ s. inr (rw s (answers_wrapped r))) (λ s. inr s) (wound_kind w)

-- The kind of the outermost node is the one that was completed last.
pub ends_hold : {A : Type 0} (P : ℕ → A → Type 0) (w : Wraps A) (e : Env) (c i : ℕ) (n : Node) (f : Forest) (h : Held A) → precede w e c i n ≡ ok f h → Ends P (kind_of n) w → P (kind_of h.held) h.answer
unfolding kind_of
ends_hold {A = A} P (end a) e c i n f h p q = subst (λ (x : Held A). P (kind_of x.held) x.answer) (sym (end_ok a e c i n f h p).1) q
ends_hold P (see g) e c i n f h p q = ends_hold P (g e (i + wide_node n)) e c i n f h (see_ok g e c i n f h p) (q e (i + wide_node n))
ends_hold P (w >- v) e c i n f h p q =
    let r = after_ok w v e c i n f h p in
    ends_hold P (v r.1.answer) e c i r.1.held f h r.3 (ends_hold (λ j a. Ends P j (v a)) w e c i n r.0 r.1 r.2 q)
ends_hold P (around b) e c i n f h p q = let r = around_ok b e c i n f h p in subst (λ (x : Held ℕ). P (kind_of x.held) x.answer) (sym r.4) (q r.0 (answers_wrapped r.2))
ends_hold P (many t b) e c i n f h p q = ⊎_elim (λ s. rw s q.0) (λ s. q.1 (kind_of h.held) s) (wound_kind (many_ok t b e c i n f h p))

-- ---- a node

in_forest_some : {A : Type 0} (o : Out (Held A)) (f : Forest) (a : A) → in_forest o ≡ ok f (Some a) → (g : Forest) × (n : Node) × (o ≡ ok g (record { held = n; answer = a })) × (f ≡ cons (whole n) nil)
unfolding in_forest
in_forest_some {A = A} (ok g h) f a p =
    let s : ◌≡◌ {A = Option A} (Some h.answer) (Some a) = ok_answer p in
    let x : h.answer ≡ a = cc in
    (g, h.held, ap (λ (y : A). ok g (record { held = h.held; answer = y })) x, sym (ok_forest p))
in_forest_some (no r) f a p = absurd (no≢ok p)
in_forest_some never f a p = absurd (never≢ok p)

in_forest_none : {A : Type 0} (o : Out (Held A)) (f : Forest) → in_forest o ≡ ok f None → ⊥
unfolding in_forest
in_forest_none (ok g h) f p = none-some h.answer (sym (ok_answer p))
in_forest_none (no r) f p = absurd (no≢ok p)
in_forest_none never f p = absurd (never≢ok p)

closed_some : {A : Type 0} (e : Env) (c i : ℕ) (o : Out (Option ℕ)) (w : ℕ → Node → Out (Held A)) (f : Forest) (a : A) → closed e c i o w ≡ ok f (Some a)
    → (g : Forest) × (k : ℕ) × (o ≡ ok g (Some k)) × (0 < k) × (in_forest (w k (node k g)) ≡ ok f (Some a))
unfolding closed
closed_some e c i (ok g None) w f a p = absurd (none-some a (ok_answer p))
closed_some e c i (ok g (Some k)) w f a p = let r = completed_ok e k (c + 1 + size g) (i + wides g) (in_forest (w k (node k g))) f (Some a) p in (g, k, refl, r.0, r.2)
closed_some e c i (no r) w f a p = absurd (no≢ok p)
closed_some e c i never w f a p = absurd (never≢ok p)

closed_none : {A : Type 0} (e : Env) (c i : ℕ) (o : Out (Option ℕ)) (w : ℕ → Node → Out (Held A)) (f : Forest) → closed e c i o w ≡ ok f None
    → (g : Forest) × (o ≡ ok g None) × (f ≡ cons (gone g) nil)
unfolding closed
closed_none e c i (ok g None) w f p = (g, refl, sym (ok_forest p))
closed_none e c i (ok g (Some k)) w f p = absurd (in_forest_none (w k (node k g)) f (completed_ok e k (c + 1 + size g) (i + wides g) (in_forest (w k (node k g))) f None p).2)
closed_none e c i (no r) w f p = absurd (no≢ok p)
closed_none e c i never w f p = absurd (never≢ok p)

-- A node that was completed: it is one whole tree.
pub chain_some : {A : Type 0} (b : Prog (Option ℕ)) (w : ℕ → Wraps A) (e : Env) (c i : ℕ) (f : Forest) (a : A) → run (chain b w) e c i ≡ ok f (Some a) → Completed b w e c i f a
unfolding run
chain_some {A = A} b w e c i f a p =
    let d = due_ok e c i (closed e c i (run b e (c + 1) i) (λ k. precede (w k) e c i)) f (Some a) p in
    let r = closed_some e c i (run b e (c + 1) i) (λ k. precede (w k) e c i) f a d.1 in
    let s = in_forest_some (precede (w r.1) e c i (node r.1 r.0)) f a r.4 in
    let z : s.0 ≡ nil = precede_nil (w r.1) e c i (node r.1 r.0) s.0 (record { held = s.1; answer = a }) s.2 in
    record { body = r.0; kind = r.1; outer = s.1; room = d.0; ran = r.2; named = r.3; preceded = same_held _ s.0 _ s.2 z; alone = s.3 }

-- A node that was abandoned.
pub chain_none : {A : Type 0} (b : Prog (Option ℕ)) (w : ℕ → Wraps A) (e : Env) (c i : ℕ) (f : Forest) → run (chain b w) e c i ≡ ok f None → Abandoned b e c i f
unfolding run
chain_none b w e c i f p =
    let d = due_ok e c i (closed e c i (run b e (c + 1) i) (λ k. precede (w k) e c i)) f None p in
    let r = closed_none e c i (run b e (c + 1) i) (λ k. precede (w k) e c i) f d.1 in
    record { body = r.0; room = d.0; ran = r.1; alone = r.2 }

-- ---- the root

-- What such a call leaves is one whole node; and where what precedes it ends, what is said there of the kind completed last holds of the kind of that node.
pub root : {A : Type 0} (P : ℕ → A → Type 0) (b : Prog (Option ℕ)) (w : ℕ → Wraps A) → ((k : ℕ) → Answers b (Some k) → Ends P k (w k))
    → (e : Env) (c i : ℕ) (f : Forest) (a : A) → run (chain b w) e c i ≡ ok f (Some a) → (n : Node) × (f ≡ cons (whole n) nil) × P (kind_of n) a
unfolding kind_of
root P b w q e c i f a p =
    let r = chain_some b w e c i f a p in (
      r.outer,
      r.alone,
      ends_hold P (w r.kind) e c i (node r.kind r.body) nil (record { held = r.outer; answer = a }) r.preceded
          (q r.kind (record { tokens = e; records = c + 1; place = i; forest = r.body; ran = r.ran })),
    )

-- A node that nothing precedes: the kind is the one that the body answers.
pub plain_root : {A : Type 0} (b : Prog (Option ℕ)) (v : ℕ → A) (e : Env) (c i : ℕ) (f : Forest) (a : A) → run (chain b (λ k. end (v k))) e c i ≡ ok f (Some a)
    → (k : ℕ) × (g : Forest) × (run b e (c + 1) i ≡ ok g (Some k)) × (f ≡ cons (whole (node k g)) nil) × (a ≡ v k)
plain_root {A = A} b v e c i f a p =
    let r = chain_some b (λ k. end (v k)) e c i f a p in
    let h = (end_ok (v r.kind) e c i (node r.kind r.body) nil (record { held = r.outer; answer = a }) r.preceded).1 in
    let n : r.outer ≡ node r.kind r.body = ap (λ (x : Held A). x.held) h in
    (r.kind, r.body, r.ran, r.alone ∙ ap (λ y. cons (whole y) nil) n, ap (λ (x : Held A). x.answer) h)
