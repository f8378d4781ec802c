use Rattle.std.proofs.Common.{◌≡◌, rules, ◌∙◌, ap, map, sym}
use Rattle.std.specs.List.{fold}
use Rattle.std.proofs.lemmas.List.Folds.{fold-map}
use Rattle.page.specs.Pieces.{with, with_byte}
use Rattle.page.proofs.Piece.text.Goals as goal

pub returns : goal.returns
unfolding with
returns c = let r : _ = c.fold.ensures.runs in
    let all : _ = c.iter.ensures.runs r.0 r.0.seen in
    let same : map (λ x. x.now) r.0.items ≡ c.args.words.now = all.4 r.2 ∙ (ap (λ s. s.rest.now) r.1 ∙ search rules) in
    r.3 (λ p x. with_byte p x.now) (λ a x b j call. search rules) ∙ sym (fold-map with_byte (λ x. x.now) c.args.self r.0.items) ∙ ap (fold with_byte c.args.self) same
