-- No second outcome of the calls by which a lesson is told, as in OnceCalls.
use mathlib.Core.Path.{◌≡◌, refl, sym, ◌∙◌}
use Rattle.demands.specs.OnceCalls.{PageOnce, NamesOnce, AccountOnce, StateOnce, TimelineOnce}
use Rattle.demands.proofs.Once.{value, told}

pub page_once : (M : Type 1) → PageOnce M
page_once M =
    record {
      page·Piece·empty = value _ refl (λ κ a v w. refl);
      page·Piece·text = value _ refl (λ κ a v w. refl);
      page·Piece·decimal = value _ refl (λ κ a v w. refl);
      page·Piece·hex = value _ refl (λ κ a v w. refl);
      page·Piece·letter = value _ refl (λ κ a v w. refl);
      page·Page·empty = value _ refl (λ κ a v w. refl);
      page·Page·text = value _ refl (λ κ a v w. refl);
      page·Page·add = value _ refl (λ κ a v w. refl);
      page·Page·begin = value _ refl (λ κ a v w. refl);
      page·Page·join = value _ refl (λ κ a v w. refl);
      page·Page·length = told _ refl (λ κ a r s v w p q. (p.0 ∙ sym q.0, refl));
      page·Page·comment = value _ refl (λ κ a v w. refl);
      page·Page·end = value _ refl (λ κ a v w. refl);
    }

pub names_once : (M : Type 1) → NamesOnce M
names_once M =
    record {
      names·word = told _ refl (λ κ a r s v w p q. (p ∙ sym q, refl));
      names·lsr = value _ refl (λ κ a v w. refl);
      names·msr = value _ refl (λ κ a v w. refl);
      names·marks_named = value _ refl (λ κ a v w. refl);
      names·marks = value _ refl (λ κ a v w. refl);
      names·levels = value _ refl (λ κ a v w. refl);
      names·register = value _ refl (λ κ a v w. refl);
      names·lines = value _ refl (λ κ a v w. refl);
      names·iir = value _ refl (λ κ a v w. refl);
    }

pub account_once : (M : Type 1) → AccountOnce M
account_once M =
    record {
      deeds·done = value _ refl (λ κ a v w. refl);
      deeds·cut = value _ refl (λ κ a v w. refl);
      answers·came = value _ refl (λ κ a v w. refl);
      moves·at_seat = value _ refl (λ κ a v w. refl);
      moves·at_controller = value _ refl (λ κ a v w. refl);
      account·record = told _ refl (λ κ a r s v w p q. (λ i. record { bench = (p.0 ∙ sym q.0) i; page = (p.1 ∙ sym q.1) i }, refl));
      account·short = told _ refl (λ κ a r s v w p q. (λ i. record { bench = (p.0 ∙ sym q.0) i; page = (p.1 ∙ sym q.1) i }, refl));
    }

pub state_once : (M : Type 1) → StateOnce M
state_once M =
    record {
      seat_page·is_in_use = value _ refl (λ κ a v w. refl);
      seat_page·seat = value _ refl (λ κ a v w. refl);
      controller_page·controller = value _ refl (λ κ a v w. refl);
    }

pub timeline_once : (M : Type 1) → TimelineOnce M
timeline_once M =
    record {
      sight·Sight·of = value _ refl (λ κ a v w. refl);
      timeline·head = value _ refl (λ κ a v w. refl);
      timeline·seat_head = value _ refl (λ κ a v w. refl);
      timeline·head_end = value _ refl (λ κ a v w. refl);
      timeline·first = value _ refl (λ κ a v w. refl);
      timeline·step = value _ refl (λ κ a v w. refl);
      timeline·last = value _ refl (λ κ a v w. refl);
      sight·Sight·look_at = value _ refl (λ κ a v w. refl);
      sight·named = value _ refl (λ κ a v w. refl);
    }
