use Rattle.std.proofs.Common.{take}
use Rattle.boards.specs.Calls.{Run}
use Rattle.boards.specs.Faces.{BoardDoes}
use Rattle.boards.specs.Tellings.{calls}
use Rattle.boards.proofs.tellings.tell_all.Given as goal

-- the tellings so far are told
abbrev pub invariant-loop-t : goal.invariant-loop-t
invariant-loop-t g l =
    let board = g.B.PriceBoard in
    let so_far = calls (take l.t-index l.tellings) in
    Run board.step so_far l.initial.board l.board
    × (board.sound l.initial.board → Run BoardDoes so_far (board.face l.initial.board) (board.face l.board))
    × (board.sound l.initial.board → board.sound l.board)
