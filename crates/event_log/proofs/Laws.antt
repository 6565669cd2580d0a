-- The statements of the theory, proved: of one call by what holds of its forest, of any calls by the forest that a reading stands for.
use Rattle.std.proofs.Common.{◌≡◌, ℕ, ◌+◌, ◌<◌, ◌≤◌, Bool, List, [], ◌∷◌, ◌++◌, map, length, sym, ap, ◌∙◌, append_assoc, zero-add, arith, length-append}
use Rattle.refusals.specs.declared.Refusal.{Refusal}
use Rattle.event_log.specs.declared.item.Item.{Item}
use Rattle.event_log.specs.declared.item.Item.TheVariants.{Enter as enter, Leave as leave, Token as told_token, Error as told_error}
use Rattle.event_log.specs.Forest.{Forest, flats, wides, wide_node}
use Rattle.event_log.specs.Forest.Tree.{token, error, whole, gone}
use Rattle.event_log.specs.Forest.Node.{node, wrap}
use Rattle.event_log.specs.Forest.Forest.{nil, cons}
use Rattle.event_log.specs.Program.{Env, Prog, Turn, turns, run, precede}
use Rattle.event_log.specs.Told.{told, told_tree, told_node, Kinds}
use Rattle.event_log.specs.Tell.{tell}
use Rattle.event_log.specs.Balance.{Balanced}
use Rattle.event_log.specs.Spelling.{Fine}
use Rattle.event_log.specs.Reading.{Call, Reading, kept, called}
use Rattle.event_log.specs.Reading.Call.{call}
use Rattle.event_log.specs.Theory.{Accepted, Refused, after_any, Spells, TokensLaw, KindsLaw, Moved, BoundsLaw, tells, TellingLaw, GoesOnLaw, BalanceLaw, TurnsLaw, WrapsLaw}
use Rattle.event_log.proofs.Telling.{tell_flats, tell_flats_append, flats_append}
use Rattle.event_log.proofs.Balancing.{told_balanced}
use Rattle.event_log.proofs.Spelling.{run_fine, holding_before, held_once, held_by_none}
use Rattle.event_log.proofs.Fuel.{spin_more, wind_more}
use Rattle.event_log.proofs.Turns.{loop_enough, wraps_enough}
use Rattle.event_log.proofs.Readings.{Stands, after_stands, stands_tells, stands_tokens, stands_balanced}

-- ---- one call

accepted_fine : (m : Call) (e : Env) (c i : ℕ) (f : Forest) → Accepted m e c i f → Fine e c i f
accepted_fine (call m) e c i f h = run_fine m e c i f h.0 h.1

accepted_kept : (m : Call) (e : Env) (r : Reading) (f : Forest) → Accepted m e (length r.log) r.place f
    → called e m r ≡ record { log = r.log ++ flats f; place = r.place + wides f }
accepted_kept (call m) e r f h = ap (kept r) h.1

refused_kept : (m : Call) (e : Env) (r : Reading) (x : Refusal) → Refused m e (length r.log) r.place x → called e m r ≡ r
refused_kept (call m) e r x h = ap (kept r) h

moved : (m : Call) (e : Env) (r : Reading) (f : Forest) → Accepted m e (length r.log) r.place f → Moved e r (called e m r) f
moved m e r f h =
    let fine = accepted_fine m e (length r.log) r.place f h in
    let further = ap (λ (s : Reading). s.place) (accepted_kept m e r f h) in
    let added = ap (λ (s : Reading). s.log) (accepted_kept m e r f h) in
    let more = ap length added ∙ length-append r.log (flats f) in
    record {
      records = added;
      place = further;
      count = more;
      inside = λ l. rw further (fine.inside l);
      fits = λ l. rw more (fine.fits l);
    }

fine_spells : (e : Env) (c i : ℕ) (f : Forest) → Fine e c i f → Spells e i (i + wides f) (told f)
fine_spells e c i f h = record {
  spelled = h.spelled;
  up_to = ap (λ w. i + w) h.measured;
  once = λ p l g. held_once p (told f) i l (omega (arith, h.measured));
  none_before = λ p l. holding_before p (told f) i l;
  none_behind = λ p l. held_by_none p (told f) i (omega (arith, h.measured));
}

-- ---- telling, by the shape of a forest

pub telling_law : TellingLaw
unfolding told told_tree told_node flats
telling_law = record {
  nothing = tell_flats nil tt;
  of_token = λ k w f kf. tell_flats (cons (token k w) f) (tt, kf) ∙ ap (λ is. told_token k w ∷ is) (sym (tell_flats f kf));
  of_error = λ n k f kf. tell_flats (cons (error n k) f) (tt, kf) ∙ ap (λ is. told_error n k ∷ is) (sym (tell_flats f kf));
  of_node = λ k g f kn kf.
      tell_flats (cons (whole (node k g)) f) (kn, kf) ∙ ap (λ is. enter k ∷ is) (append_assoc (told g) (leave ∷ []) (told f))
      ∙ (λ j. enter k ∷ (sym (tell_flats g kn.1) j ++ leave ∷ sym (tell_flats f kf) j));
  of_wrap = λ n k g f kn kf.
      tell_flats (cons (whole (wrap n k g)) f) (kn, kf) ∙ ap (λ is. enter k ∷ is) (around (told_node n) (told g) (told f))
      ∙ (λ j. enter k ∷ (sym (tell_flats (cons (whole n) g) (kn.0, kn.2)) j ++ leave ∷ sym (tell_flats f kf) j));
  of_gone = λ g f kg kf. tell_flats (cons (gone g) f) (kg, kf) ∙ (λ j. sym (tell_flats g kg) j ++ sym (tell_flats f kf) j);
  by_shape = tell_flats;
}
  where
    around : (ns gs fs : List Item) → (ns ++ (gs ++ leave ∷ [])) ++ fs ≡ (ns ++ gs) ++ leave ∷ fs
    around ns gs fs = append_assoc ns (gs ++ leave ∷ []) fs ∙ ap (λ is. ns ++ is) (append_assoc gs (leave ∷ []) fs) ∙ sym (append_assoc ns gs (leave ∷ fs))

-- ---- any calls

-- the records stay within the room
stands_fits : (e : Env) (r : Reading) → Stands e r → length r.log ≤ e.room
stands_fits e r s = rw s.records (rw zero-add at (s.fine.fits (omega arith)))

-- the records of one more forest tell that forest behind what was told before
tells_more : (e : Env) (r : Reading) (f : Forest) → Stands e r → Kinds f → tell (r.log ++ flats f) ≡ tell r.log ++ tells f
tells_more e r f s k =
    ap (λ rs. tell (rs ++ flats f)) s.records ∙ ap tell (sym (flats_append s.forest f)) ∙ tell_flats_append s.forest f s.fine.named k
    ∙ (λ j. sym (stands_tells e r s) j ++ sym (tell_flats f k) j)

module _ {C : Type 0} (program : C → Call) where
  stands : (e : Env) (ms : List C) → Stands e (after_any program e ms)
  stands e ms = after_stands e (map program ms)

  pub tokens_law : TokensLaw program
  tokens_law = record {
    of_call = λ m e c i f h. fine_spells e c i f (accepted_fine (program m) e c i f h);
    of_calls = λ e ms. stands_tokens e (after_any program e ms) (stands e ms);
  }

  pub kinds_law : KindsLaw program
  kinds_law m e c i f h = (accepted_fine (program m) e c i f h).named

  pub bounds_law : BoundsLaw program
  bounds_law = record {
    accepted = λ m e r f h. moved (program m) e r f h;
    refused = λ m e r x h. refused_kept (program m) e r x h;
    inside = λ e ms. (stands_tokens e (after_any program e ms) (stands e ms)).inside;
    fits = λ e ms. stands_fits e (after_any program e ms) (stands e ms);
  }

  pub goes_on_law : GoesOnLaw program
  goes_on_law e ms m f h =
      let r = after_any program e ms in
      ap tell (moved (program m) e r f h).records ∙ tells_more e r f (stands e ms) (kinds_law m e _ _ f h)

  pub balance_law : BalanceLaw program
  balance_law = record {
    of_forest = forest;
    of_call = λ m e c i f h. forest f (kinds_law m e c i f h);
    of_calls = λ e ms. stands_balanced e (after_any program e ms) (stands e ms);
  }
    where
      forest : (f : Forest) → Kinds f → Balanced (tells f)
      forest f k = rw (tell_flats f k) (told_balanced f)

-- ---- turns

pub turns_law : (more : ℕ) {S : Type 0} (turn : S → Prog (Turn S)) → 0 < more → TurnsLaw more turn
unfolding run
turns_law more turn z = record {
  settled = λ n s e c i l h. spin_more (turns e i) n (λ x. run (turn x) e) s c i (omega arith) h;
  advancing = λ n s e c i l g adv. loop_enough turn e adv n (turns e i) s c i l (omega arith) (omega arith);
}

pub wraps_law : (more : ℕ) (test : Env → ℕ → Bool) (body : Prog ℕ) → 0 < more → WrapsLaw more test body
unfolding precede
wraps_law more test body z = record {
  settled = λ n x e c i l h. wind_more (turns e (i + wide_node x)) n (λ y. test e (i + wide_node y)) _ x (omega arith) h;
  advancing = λ n x e c i l g adv. wraps_enough test body e adv n (turns e (i + wide_node x)) x c i l (omega arith) (omega arith);
}
