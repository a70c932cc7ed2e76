use Rattle.lines.proofs.text.+put_decimal.Given as goal

-- a number without its last digit is smaller
abbrev pub decreases-put_decimal : goal.decreases-put_decimal
decreases-put_decimal l = l.n
