-- What holds of a reading after any calls: it stands for a forest, so what its log tells is balanced, and spells the raw tokens.
use Rattle.std.proofs.Common.{◌≡◌, ◌+◌, List, [], ◌∷◌, ◌++◌, length, sym, refl, ap, ◌∙◌, subst₂, zero-add, arith}
use Rattle.event_log.specs.Forest.{Forest, ◌<>◌, flats, wides}
use Rattle.event_log.specs.Forest.Forest.{nil}
use Rattle.event_log.specs.Program.{Env, Out, size, run}
use Rattle.event_log.specs.Program.Out.{ok, no, never}
use Rattle.event_log.specs.Told.{told}
use Rattle.event_log.specs.Tell.{tell}
use Rattle.event_log.specs.Balance.{Balanced}
use Rattle.event_log.specs.Spelling.{width, Tokens, Fine}
use Rattle.event_log.specs.Reading.{Call, Reading, begun, kept, called, after}
use Rattle.event_log.specs.Reading.Call.{call}
use Rattle.event_log.proofs.Telling.{flats_append, tell_flats}
use Rattle.event_log.proofs.Balancing.{told_balanced}
use Rattle.event_log.proofs.Sizes.{wides_append}
use Rattle.event_log.proofs.Induction.{OnOk}
use Rattle.event_log.proofs.Spelling.{fine_nothing, fine_append, runs_fine, held_once, held_by_none}

-- a reading stands for a forest: its log is that of the forest, and its place is behind it
pub record Stands (e : Env) (r : Reading) : Type 0 where
  pub forest : Forest
  pub records : r.log ≡ flats forest
  pub reach : r.place ≡ wides forest
  pub fine : Fine e 0 0 forest

pub stands_begun : (e : Env) → Stands e begun
unfolding flats wides
stands_begun e = record { forest = nil; records = refl; reach = refl; fine = fine_nothing e 0 0 }

stands_kept : {A : Type 0} (e : Env) (r : Reading) (o : Out A) → Stands e r → OnOk (Fine e (length r.log) r.place) o → Stands e (kept r o)
stands_kept e r (ok g a) s h =
    let f : Forest = s.forest in
    let c : length r.log ≡ 0 + size f = ap length s.records ∙ sym (zero-add (size f)) in
    let i : r.place ≡ 0 + wides f = s.reach ∙ sym (zero-add (wides f)) in
    record {
      forest = f <> g;
      records = ap (λ rs. rs ++ flats g) s.records ∙ sym (flats_append f g);
      reach = ap (λ x. x + wides g) s.reach ∙ sym (wides_append f g);
      fine = fine_append e 0 0 f g s.fine (subst₂ (λ x y. Fine e x y g) c i h);
    }
stands_kept e r (no x) s h = s
stands_kept e r never s h = s

pub stands_called : (e : Env) (m : Call) (r : Reading) → Stands e r → Stands e (called e m r)
stands_called e (call m) r s = stands_kept e r (run m e (length r.log) r.place) s (runs_fine m e (length r.log) r.place)

stands_after : (e : Env) (ms : List Call) (r : Reading) → Stands e r → Stands e (after e ms r)
unfolding after
stands_after e [] r s = s
stands_after e (m ∷ ms) r s = stands_after e ms (called e m r) (stands_called e m r s)

-- what a reading tells is what its forest tells
pub stands_tells : (e : Env) (r : Reading) (s : Stands e r) → tell r.log ≡ told s.forest
stands_tells e r s = ap tell s.records ∙ tell_flats s.forest s.fine.named

pub stands_tokens : (e : Env) (r : Reading) → Stands e r → Tokens e r.place (tell r.log)
stands_tokens e r s =
    let t : tell r.log ≡ told s.forest = stands_tells e r s in
    let w : width (told s.forest) ≡ r.place = s.fine.measured ∙ sym s.reach in
    record {
      spelled = rw t s.fine.spelled;
      up_to = ap width t ∙ w;
      inside = rw s.reach (rw zero-add at (s.fine.inside (omega arith)));
      once = λ p h. rw t (held_once p (told s.forest) 0 (omega arith) (omega arith));
      no_more = λ p h. rw t (held_by_none p (told s.forest) 0 (omega arith));
    }

pub stands_balanced : (e : Env) (r : Reading) → Stands e r → Balanced (tell r.log)
stands_balanced e r s = rw (stands_tells e r s) (told_balanced s.forest)

pub after_stands : (e : Env) (ms : List Call) → Stands e (after e ms begun)
after_stands e ms = stands_after e ms begun (stands_begun e)
