use Rattle.std.proofs.Common.{◌≡◌, ◌<◌, length, refl, arith, rules}
use Rattle.hosts.specs.Host.{columns}
use Rattle.hosts.specs.Fill.{row_of}
use Rattle.hosts.proofs.Filling.{filled_more, fill_all, fill_refused}
use Rattle.hosts.proofs.fill.fill.Goals as goal

pub returns-in_err-check_rows : goal.returns-in_err-check_rows
returns-in_err-check_rows g c = fill_refused _ _ c.from_residual.result c.from_residual.ensures.1 c.in_err-check_rows.ensures refl

pub loop-place-preserved : goal.loop-place-preserved
loop-place-preserved g c =
    let within : c.loop-place.place < length c.loop-place.rows = omega (arith, c.loop-place.auto.rows) in
    let told : c.row_at.result ≡ row_of (g.H.Host.meaning c.args.host.now) (columns c.args.input) c.loop-place.place = search rules in
    filled_more _ _ c.loop-place.invariant within told c.row_at.ensures.lawful

pub returns : goal.returns
returns g c =
    let end : c.loop-place.place ≡ length c.loop-place.rows = omega (arith, c.loop-place.auto.rows, c.loop-place.auto.place-end) in
    fill_all _ _ c.in_ok-check_rows.ensures c.loop-place.invariant end c.loop-place.auto.rows
