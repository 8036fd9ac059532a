use Rattle.td_live.proofs.live.seat_next.Goals as goal
