-- A board that is shown has few enough pixels for the room that is lent. Assumes nothing.
use Rattle.std.proofs.Common.{arith}
use Rattle.feed.proofs.Deciding.{shown}
use Rattle.board.proofs.print_listing.Goals as goal

pub print_board-requires-clause-size_in_bounds : goal.print_board-requires-clause-size_in_bounds
print_board-requires-clause-size_in_bounds g c = (shown _ _ c.decide.ensures c.in-Board.is).few

pub print_board-requires-clause-size_in_bounds_2 :
    goal.print_board-requires-clause-size_in_bounds_2
print_board-requires-clause-size_in_bounds_2 g c =
    omega (arith, (shown _ _ c.decide.ensures c.in-Board.is).few-blocks)
