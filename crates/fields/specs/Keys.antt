-- The keys of the settings line, the journal line, the lines of commands and the text of a record, in ASCII.
use Rattle.std.specs.Prelude.{ℕ, List, [], ◌∷◌}

abbrev pub lines_key : List ℕ
lines_key = 108 ∷ 105 ∷ 110 ∷ 101 ∷ 115 ∷ []

abbrev pub bucket_key : List ℕ
bucket_key = 98 ∷ 117 ∷ 99 ∷ 107 ∷ 101 ∷ 116 ∷ []

abbrev pub window_key : List ℕ
window_key = 119 ∷ 105 ∷ 110 ∷ 100 ∷ 111 ∷ 119 ∷ []

abbrev pub hold_key : List ℕ
hold_key = 104 ∷ 111 ∷ 108 ∷ 100 ∷ []

abbrev pub low_key : List ℕ
low_key = 108 ∷ 111 ∷ 119 ∷ []

abbrev pub high_key : List ℕ
high_key = 104 ∷ 105 ∷ 103 ∷ 104 ∷ []

abbrev pub displays_key : List ℕ
displays_key = 100 ∷ 105 ∷ 115 ∷ 112 ∷ 108 ∷ 97 ∷ 121 ∷ 115 ∷ []

abbrev pub display_key : List ℕ
display_key = 100 ∷ 105 ∷ 115 ∷ 112 ∷ 108 ∷ 97 ∷ 121 ∷ []

abbrev pub now_key : List ℕ
now_key = 110 ∷ 111 ∷ 119 ∷ []

abbrev pub line_key : List ℕ
line_key = 108 ∷ 105 ∷ 110 ∷ 101 ∷ []

abbrev pub kind_key : List ℕ
kind_key = 107 ∷ 105 ∷ 110 ∷ 100 ∷ []

abbrev pub id_key : List ℕ
id_key = 105 ∷ 100 ∷ []

abbrev pub time_key : List ℕ
time_key = 116 ∷ 105 ∷ 109 ∷ 101 ∷ []

abbrev pub meter_key : List ℕ
meter_key = 109 ∷ 101 ∷ 116 ∷ 101 ∷ 114 ∷ []

abbrev pub value_key : List ℕ
value_key = 118 ∷ 97 ∷ 108 ∷ 117 ∷ 101 ∷ []

abbrev pub count_key : List ℕ
count_key = 99 ∷ 111 ∷ 117 ∷ 110 ∷ 116 ∷ []

abbrev pub sum_key : List ℕ
sum_key = 115 ∷ 117 ∷ 109 ∷ []

abbrev pub mean_key : List ℕ
mean_key = 109 ∷ 101 ∷ 97 ∷ 110 ∷ []

abbrev pub last_key : List ℕ
last_key = 108 ∷ 97 ∷ 115 ∷ 116 ∷ []
