-- The edges, by computation over the definitions.
use mathlib.Core.Path.{refl}
use Rattle.demands.specs.Edges.{Edges, Ingredients}
use Rattle.demands.proofs.Opened.{laid_open}

pub at_the_edges : Edges
unfolding laid_open
at_the_edges = refl

pub by_ingredient : Ingredients
unfolding laid_open
by_ingredient = refl
