use mathlib.Core.Path.{sym, ◌∙◌}
use lib.ListN.{get_or-eq_default}
use borrow.Author.Tests.{ltb-true, ltb-false}
use Rattle.std.specs.Prelude.{None}
use Rattle.std.proofs.lemmas.List.{get_or_default}
use Rattle.options.specs.Words.{place_of}
use Rattle.options.proofs.Words.place_of.Goals as goal

pub returns-in_err-get : goal.returns-in_err-get
unfolding place_of
returns-in_err-get c = let a = c.args in
    c.from_residual.ensures ∙ sym (get_or-eq_default a.self.asked None (ltb-false _ _ (sym c.in_err-get.ensures.lookup.0)))

pub returns : goal.returns
unfolding place_of
returns c = let a = c.args in
    c.in_ok-get.ensures.lookup.1 ∙ get_or_default a.self.asked a.what _ None (ltb-true _ _ (sym c.in_ok-get.ensures.lookup.0))
