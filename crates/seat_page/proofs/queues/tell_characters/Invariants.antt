use Rattle.std.proofs.Common.{◌≡◌, ◌≤◌, length, map, drop}
use Rattle.page.specs.Pages.{joined_all}
use Rattle.seat_page.specs.SeatPages.{character_words}
use Rattle.seat_page.proofs.queues.tell_characters.Given as goal

abbrev pub invariant-loop-ch : goal.invariant-loop-ch
invariant-loop-ch l =
    (l.ch-index ≤ length l.characters)
    × (joined_all l.initial.told (map (character_words l.marks) l.characters) ≡ joined_all l.told (map (character_words l.marks) (drop l.ch-index l.characters)))
