-- Numbers of w bytes at an offset of a byte list, in either order: what the bytes say, and the bytes of a number.
-- number_at e w s o   the number of the w bytes of s at o, in the order e
-- signed w n         the number that n stands for in w bytes of two's complement
-- bytes_of e w n      the w bytes of n, in the order e
-- Assumes nothing.
use Rattle.std.specs.Prelude.{ℕ, zero, suc, ◌+◌, ◌*◌, ◌^◌, ◌/◌, ◌%◌, List, [], ◌∷◌, get_or, ltb, cond, ℤ, pos, ◌-ℤ◌}
use Rattle.endian.specs.declared.Order.{Order}
use Rattle.endian.specs.declared.Order.TheVariants.{Little, Big}

-- the number that a bytes with the number x and after them b bytes with the number y are together
abbrev pub joined : Order → ℕ → ℕ → ℕ → ℕ → ℕ
joined Little a b x y = x + 256 ^ a * y
joined Big a b x y = 256 ^ b * x + y

-- the number of the first a of the a + b bytes of n, and that of the other b
abbrev pub front : Order → ℕ → ℕ → ℕ → ℕ
front Little a b n = n % 256 ^ a
front Big a b n = n / 256 ^ b

abbrev pub back : Order → ℕ → ℕ → ℕ → ℕ
back Little a b n = n / 256 ^ a
back Big a b n = n % 256 ^ b

-- the number of the w bytes at o
unfoldable pub number_at : Order → ℕ → List ℕ → ℕ → ℕ
number_at e zero s o = 0
number_at e (suc w) s o = joined e 1 w (get_or s o 0) (number_at e w s (o + 1))

-- two's complement: below half of 256 ^ w a number is itself, above it is counted from 256 ^ w downwards
unfoldable pub signed : ℕ → ℕ → ℤ
signed w n = cond (ltb (2 * n) (256 ^ w)) (pos n) (pos n -ℤ pos (256 ^ w))

-- the w bytes of n
unfoldable pub bytes_of : Order → ℕ → ℕ → List ℕ
bytes_of e zero n = []
bytes_of e (suc w) n = front e 1 w n ∷ bytes_of e w (back e 1 w n)
