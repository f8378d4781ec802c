-- The head is not cut.
use Rattle.std.specs.Prelude.{◌≤◌, length}
use Rattle.std.proofs.Common.{arith}
use Rattle.page.specs.Pieces.{piece_most}
use Rattle.controller_page.specs.ControllerPages.{controller_head}

pub controller_head_short : length controller_head ≤ piece_most
unfolding controller_head
controller_head_short = omega arith
