use Rattle.std.proofs.Common.{◌≡◌, Bool, not, ◌&&◌, sym, ap, ◌∙◌, subst, rules}
use Rattle.registers.specs.declared.SeatEvent.{SeatEvent}
use Rattle.registers.specs.declared.SeatEvent.TheVariants.{Time, Arrival}
use Rattle.channel.specs.declared.Channel.{Channel}
use Rattle.seat.specs.CountLaws.{Told, read_told, write_told, levels_told, arrival_told, time_told}
use Rattle.seat.proofs.events.hears.Goals as goal

-- an event that is this one
told_of : (c : Channel) (e f : SeatEvent) (a b : Bool) → e ≡ f → a ≡ b → Told c f b → Told c e a
told_of c e f a b is same told = subst (λ (x : SeatEvent). Told c x a) (sym is) (subst (Told c f) (sym same) told)

pub returns-in-Arrival : goal.returns-in-Arrival
returns-in-Arrival c = let a = c.args in
    told_of a.c a.e _ _ _ c.in-Arrival.is (ap not c.is_looped.ensures) (arrival_told a.c _ _)

pub returns-in-Time : goal.returns-in-Time
returns-in-Time c = let a = c.args in
    told_of a.c a.e Time _ _ c.in-Time.is (ap (λ (b : Bool). b && a.c.transmitter.busy) c.is_looped-in-Time.ensures)
    (time_told a.c)

pub returns-in-Read : goal.returns-in-Read
returns-in-Read c = subst (λ (x : SeatEvent). Told c.args.c x _) (sym c.in-Read.is) (read_told _ _)

pub returns-in-Write : goal.returns-in-Write
returns-in-Write c = subst (λ (x : SeatEvent). Told c.args.c x _) (sym c.in-Write.is) (write_told _ _ _)

pub returns-in-Levels : goal.returns-in-Levels
returns-in-Levels c = subst (λ (x : SeatEvent). Told c.args.c x _) (sym c.in-Levels.is) (levels_told _ _)
