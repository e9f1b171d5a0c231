-- The grammar of statements with common beginnings drawn out, so that one token ahead decides each step.
use Rattle.std.specs.Prelude.{codes}
use Rattle.script_lex.specs.declared.kinds.Symbol.TheVariants.{Open, Close, Comma, Dot, Eq}
use Rattle.spj_syntax.specs.Shapes.{word, mark, Shape, one, ◌⨾◌, ◌∣◌, many}
use Rattle.spj_syntax.specs.Grammar.{a_name, listed, filtered, literal, strict, column, key, test, col, op_but_equal, head, separated, united_verb, verb, aggregate, grouped, join_grouped, set, one_of, direct}

-- Each column has its comma behind it.
abbrev pub columns : Shape
columns = (column ⨾ one (mark Comma)) ⨾ many (column ⨾ one (mark Comma))

-- the columns and the key of a table
abbrev pub body : Shape
body = one (mark Open) ⨾ columns ⨾ key ⨾ one (mark Close)

abbrev pub create : Shape
create = one (word (codes "create")) ⨾ strict ⨾ one (word (codes "table")) ⨾ a_name ⨾ body

-- `drop` with the mark, or `set` with the mark or a key
abbrev pub change : Shape
change = one (word (codes "drop")) ⨾ one (word (codes "strict")) ∣ one (word (codes "set")) ⨾ (one (word (codes "strict")) ∣ key)

abbrev pub alter : Shape
alter = one (word (codes "alter")) ⨾ one (word (codes "table")) ⨾ a_name ⨾ change

-- an = with a column or a literal, or another operator with a literal
abbrev pub side : Shape
side = one (mark Eq) ⨾ (col ∣ literal) ∣ op_but_equal ⨾ literal

abbrev pub cond : Shape
cond = col ⨾ side

abbrev pub query : Shape
query = head ⨾ one (word (codes "from")) ⨾ listed a_name ⨾ filtered cond

abbrev pub united : Shape
united = separated (word (codes "union")) query

-- a verb that takes one query or several, and these
abbrev pub several : Shape
several = united_verb ⨾ united

-- a verb that takes one query alone, and the query
abbrev pub single : Shape
single = verb ⨾ query

abbrev pub asking : Shape
asking = several ∣ single

abbrev pub show : Shape
show = one (word (codes "show")) ⨾ (one (word (codes "tables")) ∣ one (word (codes "log")) ∣ one (word (codes "conflicts")))

-- what stands behind the first of several tables
abbrev pub behind : Shape
behind = one (mark Comma) ⨾ listed a_name ⨾ filtered cond ⨾ join_grouped

-- what stands behind the first table of a range: that of several, or the tests and the group of one
abbrev pub tail : Shape
tail = behind ∣ filtered test ⨾ grouped

abbrev pub from_tables : Shape
from_tables = one (word (codes "from")) ⨾ a_name ⨾ tail

abbrev pub from_several : Shape
from_several = one (word (codes "from")) ⨾ a_name ⨾ behind

-- A column that is written with its table takes several.
abbrev pub ranged : Shape
ranged = one (word (codes "count")) ⨾ from_tables ∣ aggregate ⨾ a_name ⨾ ((one (mark Dot) ⨾ a_name) ⨾ from_several ∣ from_tables)

abbrev pub range : Shape
range = one (word (codes "range")) ⨾ ranged

-- statements that change nothing
abbrev pub telling : Shape
telling = one (word (codes "dump")) ∣ show ∣ range ∣ asking

-- all statements but `set`
abbrev pub plain : Shape
plain = create ∣ alter ∣ one_of direct (show ∣ range ∣ asking)

abbrev pub statement : Shape
statement = set ∣ plain
