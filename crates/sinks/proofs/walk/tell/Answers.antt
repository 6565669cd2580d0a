use Rattle.std.proofs.Common.{ap, sym, ◌∙◌, rules}
use Rattle.std.specs.Prelude.{is_ok}
use Rattle.std.proofs.lemmas.Option.{slice_get-get_or}
use Rattle.sinks.proofs.Groups.{so_far_none, so_far_ok, so_far_all, so_far_err}
use Rattle.sinks.proofs.walk.tell.Goals as goal

pub loop-at-init : goal.loop-at-init
loop-at-init g c = so_far_none c.requires

pub tell_record-requires-clause-here : goal.tell_record-requires-clause-here
tell_record-requires-clause-here g c = slice_get-get_or c.args.records.now c.loop-at.at-counter _ c.loop-at-test.true

pub returns-in_err-map_err-clause-told : goal.returns-in_err-map_err-clause-told
returns-in_err-map_err-clause-told g c =
    so_far_err (λ e x p. search (rules, p)) c.map_err.ensures.cases c.in_err-map_err.was c.from_residual.ensures.1 c.loop-at.invariant c.tell_record.ensures

pub loop-at-preserved : goal.loop-at-preserved
loop-at-preserved g c = so_far_ok (sym c.map_err.ensures.variant ∙ ap is_ok c.in_ok-map_err.was) c.loop-at.invariant c.tell_record.ensures

pub returns-clause-told : goal.returns-clause-told
returns-clause-told g c = so_far_all c.loop-at.invariant c.loop-at-test.false
