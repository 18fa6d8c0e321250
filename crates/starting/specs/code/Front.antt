-- How much of a roster file decides whether it is good, and how; and how much of a list of keys whether it is.
use Rattle.std.specs.Prelude.{ℕ, ◌+◌, ◌*◌}
use Rattle.keys.specs.Names.{application_name_most, key_name_most}
use Rattle.keys.specs.Key.{data_most}
use Rattle.registry.specs.Registry.{line_count}
use Rattle.shipped.specs.Shipped.{listed_most}

-- a record has 3 bytes of tag and length, and its value: in a good one a name, in any as many bytes as the 2 bytes of the
-- length can say
abbrev pub good_record_most : ℕ
good_record_most = 3 + application_name_most

abbrev pub record_most : ℕ
record_most = 3 + 65535

-- as many good records as there are lines, and then one that is faulty; what is behind that can't matter: `front-decides` in
-- proofs/FrontLaws.antt
abbrev pub front_most : ℕ
front_most = line_count * good_record_most + record_most

-- the longest pair of a good list: a name and data, each in its record
abbrev pub pair_most : ℕ
pair_most = 3 + key_name_most + (3 + data_most)

-- as many such pairs as a list may have
abbrev pub list_most : ℕ
list_most = listed_most * pair_most

-- with one byte more a list is bad, whatever is behind that: `list-front-decides`
abbrev pub list_front_most : ℕ
list_front_most = list_most + 1
