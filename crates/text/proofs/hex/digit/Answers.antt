use native.Mathlib.Omega.{arith}
use Rattle.text.proofs.Digits.{of_numeral, of_capital, of_small, of_none}
use Rattle.text.proofs.hex.digit.Goals as goal

pub returns-in-48-to-57 : goal.returns-in-48-to-57
returns-in-48-to-57 c = (of_numeral _ (omega arith) (omega arith), omega arith)

pub returns-in-65-to-70 : goal.returns-in-65-to-70
returns-in-65-to-70 c = (of_capital _ (omega arith) (omega arith), omega arith)

pub returns-in-97-to-102 : goal.returns-in-97-to-102
returns-in-97-to-102 c = (of_small _ (omega arith) (omega arith), omega arith)

pub returns-in_default : goal.returns-in_default
returns-in_default c = (of_none _ (λ l h. omega arith) (λ l h. omega arith) (λ l h. omega arith), tt)

pub returns-in_default-2 : goal.returns-in_default-2
returns-in_default-2 c = (of_none _ (λ l h. omega arith) (λ l h. omega arith) (λ l h. omega arith), tt)

pub returns-in_default-3 : goal.returns-in_default-3
returns-in_default-3 c = (of_none _ (λ l h. omega arith) (λ l h. omega arith) (λ l h. omega arith), tt)

pub returns-in_default-4 : goal.returns-in_default-4
returns-in_default-4 c = (of_none _ (λ l h. omega arith) (λ l h. omega arith) (λ l h. omega arith), tt)
