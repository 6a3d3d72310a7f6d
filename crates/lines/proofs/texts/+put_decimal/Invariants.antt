-- `put_decimal` puts the digits of a tenth of the number, and its last. Each call of itself is for a smaller number.
use Rattle.lines.proofs.texts.+put_decimal.Given as goal

abbrev pub decreases-put_decimal : goal.decreases-put_decimal
decreases-put_decimal l = l.n
