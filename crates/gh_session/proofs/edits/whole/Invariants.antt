use Rattle.std.proofs.Common.{◌≡◌, ◌++◌, map, drop, take}
use Rattle.std.specs.List.{concat}
use Rattle.gh_session.specs.Pieces.{whole}
use Rattle.gh_session.proofs.edits.whole.Given as goal

abbrev pub invariant-loop-piece : goal.invariant-loop-piece
invariant-loop-piece l =
    l.text ++ concat (map (λ e. e.now.text) (drop l.piece-index l.piece-items))
    ≡ whole l.edits.head (take l.upto l.edits.edits.items)
