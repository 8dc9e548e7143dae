-- The text that a seed and a size give: so many functions, each in a line, and a `main` that calls them in turn.
use Rattle.std.specs.Prelude.{ℕ, zero, suc, ◌+◌, ◌*◌, ◌/◌, ◌%◌, ◌^◌, List, ◌++◌, flat_map, codes, decimal}
use Rattle.std.specs.List.{range_with_len}

-- ---- draws

-- the number that a draw makes of the one before
abbrev pub next_draw : ℕ → ℕ
next_draw r = (r * 1664525 + 1013904223) % 2 ^ 32

-- the number after so many draws, which is the seed at first
abbrev pub after_draws : (seed draws : ℕ) → ℕ
after_draws seed zero = seed
after_draws seed (suc draws) = next_draw (after_draws seed draws)

-- two draws are made for each function: the factor of function k comes from the first of them,
abbrev pub factor : (seed k : ℕ) → ℕ
factor seed k = 1 + after_draws seed (2 * k + 1) / 2 ^ 24

-- and its mask from the second
abbrev pub mask : (seed k : ℕ) → ℕ
mask seed k = after_draws seed (2 * k + 2) / 2 ^ 16

-- ---- lines

-- function k with a factor m and a mask e, in a line
abbrev pub function_line : (k m e : ℕ) → List ℕ
function_line k m e =
    codes "unsigned f" ++ decimal k ++ codes "(unsigned a,unsigned b){unsigned c;unsigned d;c=a*" ++ decimal m
    ++ codes "+b;d=a^" ++ decimal e ++ codes ";if(c<d){c=c+d;}else{c=c-b;}return c^d;}\n"

-- the line of function k that a seed gives
abbrev pub drawn_line : (seed k : ℕ) → List ℕ
drawn_line seed k = function_line k (factor seed k) (mask seed k)

-- the statement of `main` that calls function k
abbrev pub call_statement : (k : ℕ) → List ℕ
call_statement k = codes "x=f" ++ decimal k ++ codes "(x,i);"

-- the line of `main`, which calls all functions in each of four rounds
abbrev pub main_line : (size : ℕ) → List ℕ
main_line size =
    codes "int main(void){unsigned x;int i;x=1;for(i=0;i<4;i++){" ++ flat_map call_statement (range_with_len 0 size)
    ++ codes "}putchar(x&127);return x>>25;}\n"

-- ---- the text

-- the lines of the functions, whose numbers are those below the size, and the line of `main`
abbrev pub generated_text : (seed size : ℕ) → List ℕ
generated_text seed size =
    flat_map (drawn_line seed) (range_with_len 0 size) ++ main_line size
