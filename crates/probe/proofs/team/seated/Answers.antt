use Rattle.std.proofs.Common.{◌≡◌, All, List, subst, sym}
use Rattle.chronicle.specs.Seats.{SeatState}
use Rattle.probe.proofs.team.seated.Goals as goal

pub work-requires : goal.work-requires
work-requires g c = subst (λ (l : List SeatState). All (λ (s : SeatState). s.row ≡ c.args.row.now) l) (sym c.as_mut_slice.ensures.value) c.in_ok-both.ensures.row
