use Rattle.std.proofs.Common.{◌<◌, ◌≤◌, rules}
use Rattle.bench_main.proofs.Folds.{folds_keep}
use Rattle.bench_main.proofs.saves.stop.Goals as goal

pub returns : goal.returns
returns c = folds_keep _ (λ t. (c.args.from < t.1) × (t.1 ≤ c.args.most)) (λ p w q call kept. search rules) _ c.walk-stop.ensures.0 _ c.walk-stop.ensures.1 (search rules)
