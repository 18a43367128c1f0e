-- The tables of an event in either version, as the texts that make them say.
use Rattle.std.specs.Prelude.{ℕ, pos, ◌==◌, Bool, true, false, if◌then◌else◌, List, [], ◌∷◌, ◌++◌, Some, None, codes}
use Rattle.sqlite.specs.declared.types.Value.TheVariants.{Null, Int}
use Rattle.sqlite.specs.Collation.TheVariants.{Binary}
use Rattle.sqlite.specs.Kind.{Kind}
use Rattle.sqlite.specs.Kind.TheVariants.{Integer, Text}
use Rattle.sqlite.specs.Term.{lit, col, op2}
use Rattle.sqlite.specs.Table.{Table}
use Rattle.sqlite.specs.Schema.{Schema}
use Rattle.sqlite_sql.specs.declared.ops.BinaryOp.TheVariants.{Compare}
use Rattle.sqlite_sql.specs.declared.ops.CompareOp.TheVariants.{Eq, Lt}
use Rattle.sqlite_schema.specs.declared.schema.Column.{Column}
use Rattle.sqlite_schema.specs.declared.schema.Index.{Index}

abbrev pub create_event : List ℕ
create_event = codes "CREATE TABLE event(id INTEGER PRIMARY KEY CHECK(id = 1), version INTEGER NOT NULL, serial INTEGER NOT NULL, name TEXT NOT NULL, rounds INTEGER NOT NULL, cut INTEGER NOT NULL, phase INTEGER NOT NULL)"

abbrev pub create_player : List ℕ
create_player = codes "CREATE TABLE player(no INTEGER PRIMARY KEY, name TEXT NOT NULL UNIQUE, dropped INTEGER NOT NULL)"

abbrev pub create_player2 : List ℕ
create_player2 = codes "CREATE TABLE player2(no INTEGER PRIMARY KEY, name TEXT NOT NULL UNIQUE, dropped INTEGER NOT NULL, joined INTEGER NOT NULL)"

abbrev pub create_pairing : List ℕ
create_pairing = codes "CREATE TABLE pairing(round INTEGER NOT NULL, tab INTEGER NOT NULL, lo INTEGER NOT NULL, hi INTEGER NOT NULL, swapped INTEGER NOT NULL, done INTEGER NOT NULL, x INTEGER NOT NULL, y INTEGER NOT NULL, d INTEGER NOT NULL, PRIMARY KEY(round, tab), UNIQUE(lo, hi), CHECK(lo < hi))"

abbrev pub create_bracket : List ℕ
create_bracket = codes "CREATE TABLE bracket(stage INTEGER NOT NULL, slot INTEGER NOT NULL, a INTEGER NOT NULL, b INTEGER NOT NULL, done INTEGER NOT NULL, x INTEGER NOT NULL, y INTEGER NOT NULL, d INTEGER NOT NULL, PRIMARY KEY(stage, slot))"

abbrev pub create_tally : List ℕ
create_tally = codes "CREATE TABLE tally(no INTEGER PRIMARY KEY, points INTEGER NOT NULL, rounds INTEGER NOT NULL, gamepoints INTEGER NOT NULL, games INTEGER NOT NULL)"

abbrev pub plain : List ℕ → Kind → Bool → Column
plain name kind not_null = record { name = name; kind = kind; is_strict = false; not_null = not_null; default = Null; collation = Binary }

-- a NOT NULL column of integers
abbrev pub number_column : List ℕ → Column
number_column name = plain name Integer true

abbrev pub event : ℕ → Table
event tree = record {
  name = codes "event";
  tree = tree;
  columns =
      plain (codes "id") Integer false ∷ number_column (codes "version") ∷ number_column (codes "serial")
      ∷ plain (codes "name") Text true ∷ number_column (codes "rounds") ∷ number_column (codes "cut") ∷ number_column (codes "phase") ∷ [];
  key = Some 0;
  primary = 0 ∷ [];
  uniques = [];
  orders = [];
  checks = op2 (Compare Eq Binary) (col 1 0) (lit (Int (pos 1))) ∷ [];
  references = [];
  computed = [];
  stamps = record { places = []; terms = []; formats = [] };
  is_counted = false;
}

abbrev pub player : ℕ → Table
player tree = record {
  name = codes "player";
  tree = tree;
  columns = plain (codes "no") Integer false ∷ plain (codes "name") Text true ∷ number_column (codes "dropped") ∷ [];
  key = Some 0;
  primary = 0 ∷ [];
  uniques = (2 ∷ []) ∷ [];
  orders = record { digits = 0 } ∷ [];
  checks = [];
  references = [];
  computed = [];
  stamps = record { places = []; terms = []; formats = [] };
  is_counted = false;
}

abbrev pub player2 : ℕ → Table
player2 tree = record {
  name = codes "player2";
  tree = tree;
  columns =
      plain (codes "no") Integer false ∷ plain (codes "name") Text true ∷ number_column (codes "dropped") ∷ number_column (codes "joined") ∷ [];
  key = Some 0;
  primary = 0 ∷ [];
  uniques = (2 ∷ []) ∷ [];
  orders = record { digits = 0 } ∷ [];
  checks = [];
  references = [];
  computed = [];
  stamps = record { places = []; terms = []; formats = [] };
  is_counted = false;
}

-- the table of players of a version
abbrev pub players_of : ℕ → ℕ → Table
players_of version tree = if version == 2 then player2 tree else player tree

abbrev pub pairing : ℕ → Table
pairing tree = record {
  name = codes "pairing";
  tree = tree;
  columns =
      number_column (codes "round") ∷ number_column (codes "tab") ∷ number_column (codes "lo") ∷ number_column (codes "hi")
      ∷ number_column (codes "swapped") ∷ number_column (codes "done") ∷ number_column (codes "x") ∷ number_column (codes "y") ∷ number_column (codes "d")
      ∷ [];
  key = None;
  primary = 1 ∷ 2 ∷ [];
  uniques = (1 ∷ 2 ∷ []) ∷ (3 ∷ 4 ∷ []) ∷ [];
  orders = record { digits = 0 } ∷ record { digits = 0 } ∷ [];
  checks = op2 (Compare Lt Binary) (col 1 3) (col 1 4) ∷ [];
  references = [];
  computed = [];
  stamps = record { places = []; terms = []; formats = [] };
  is_counted = false;
}

abbrev pub bracket : ℕ → Table
bracket tree = record {
  name = codes "bracket";
  tree = tree;
  columns =
      number_column (codes "stage") ∷ number_column (codes "slot") ∷ number_column (codes "a") ∷ number_column (codes "b") ∷ number_column (codes "done")
      ∷ number_column (codes "x") ∷ number_column (codes "y") ∷ number_column (codes "d") ∷ [];
  key = None;
  primary = 1 ∷ 2 ∷ [];
  uniques = (1 ∷ 2 ∷ []) ∷ [];
  orders = record { digits = 0 } ∷ [];
  checks = [];
  references = [];
  computed = [];
  stamps = record { places = []; terms = []; formats = [] };
  is_counted = false;
}

abbrev pub tally : ℕ → Table
tally tree = record {
  name = codes "tally";
  tree = tree;
  columns =
      plain (codes "no") Integer false ∷ number_column (codes "points") ∷ number_column (codes "rounds") ∷ number_column (codes "gamepoints")
      ∷ number_column (codes "games") ∷ [];
  key = Some 0;
  primary = 0 ∷ [];
  uniques = [];
  orders = [];
  checks = [];
  references = [];
  computed = [];
  stamps = record { places = []; terms = []; formats = [] };
  is_counted = false;
}

-- where the rows of each table are stored; the trees between these are those of the indexes
abbrev pub event_tree : ℕ
event_tree = 0

abbrev pub player_tree : ℕ
player_tree = 1

abbrev pub pairing_tree : ℕ
pairing_tree = 3

abbrev pub bracket_tree : ℕ
bracket_tree = 6

abbrev pub tally_tree : ℕ
tally_tree = 8

-- the indexes that SQLite makes for the keys
abbrev pub key : List ℕ → ℕ → ℕ → List ℕ → Index
key name tree table columns = record {
  name = name;
  tree = tree;
  table = table;
  columns = columns;
  order = record { digits = 0 };
  is_unique = true;
}

abbrev pub no_schema : Schema
no_schema = record { tables = []; indexes = []; views = [] }

abbrev pub event_schema : Schema
event_schema = record { tables = event event_tree ∷ []; indexes = []; views = [] }

-- the names of the players are a key
abbrev pub names_key : Table → ℕ → Index
names_key players tree = key (codes "sqlite_autoindex_" ++ players.name ++ codes "_1") tree players.tree (2 ∷ [])

-- The schemas that creation goes through, with this table of players.
abbrev pub player_schema : Table → Schema
player_schema players = record { tables = event event_tree ∷ players ∷ []; indexes = names_key players 2 ∷ []; views = [] }

abbrev pub pairing_schema : Table → Schema
pairing_schema players = record {
  tables = event event_tree ∷ players ∷ pairing pairing_tree ∷ [];
  indexes =
      names_key players 2 ∷ key (codes "sqlite_autoindex_pairing_1") 4 pairing_tree (1 ∷ 2 ∷ [])
      ∷ key (codes "sqlite_autoindex_pairing_2") 5 pairing_tree (3 ∷ 4 ∷ []) ∷ [];
  views = [];
}

abbrev pub bracket_schema : Table → Schema
bracket_schema players = record {
  tables = event event_tree ∷ players ∷ pairing pairing_tree ∷ bracket bracket_tree ∷ [];
  indexes =
      names_key players 2 ∷ key (codes "sqlite_autoindex_pairing_1") 4 pairing_tree (1 ∷ 2 ∷ [])
      ∷ key (codes "sqlite_autoindex_pairing_2") 5 pairing_tree (3 ∷ 4 ∷ [])
      ∷ key (codes "sqlite_autoindex_bracket_1") 7 bracket_tree (1 ∷ 2 ∷ []) ∷ [];
  views = [];
}

abbrev pub tally_schema : Table → Schema
tally_schema players = record {
  tables = event event_tree ∷ players ∷ pairing pairing_tree ∷ bracket bracket_tree ∷ tally tally_tree ∷ [];
  indexes =
      names_key players 2 ∷ key (codes "sqlite_autoindex_pairing_1") 4 pairing_tree (1 ∷ 2 ∷ [])
      ∷ key (codes "sqlite_autoindex_pairing_2") 5 pairing_tree (3 ∷ 4 ∷ [])
      ∷ key (codes "sqlite_autoindex_bracket_1") 7 bracket_tree (1 ∷ 2 ∷ []) ∷ [];
  views = [];
}

abbrev pub insert_event : List ℕ
insert_event = codes "INSERT INTO event (id, version, serial, name, rounds, cut, phase) VALUES (1, ?1, ?2, ?3, ?4, ?5, ?6)"

abbrev pub insert_player : List ℕ
insert_player = codes "INSERT INTO player (no, name, dropped) VALUES (?1, ?2, ?3)"

abbrev pub insert_player2 : List ℕ
insert_player2 = codes "INSERT INTO player2 (no, name, dropped, joined) VALUES (?1, ?2, ?3, ?4)"

abbrev pub insert_pairing : List ℕ
insert_pairing = codes "INSERT INTO pairing (round, tab, lo, hi, swapped, done, x, y, d) VALUES (?1, ?2, ?3, ?4, ?5, ?6, ?7, ?8, ?9)"

abbrev pub set_serial : List ℕ
set_serial = codes "UPDATE event SET serial = ?1"

abbrev pub set_phase : List ℕ
set_phase = codes "UPDATE event SET phase = ?1"

abbrev pub set_dropped : List ℕ
set_dropped = codes "UPDATE player SET dropped = 1 WHERE no = ?1"

abbrev pub set_dropped2 : List ℕ
set_dropped2 = codes "UPDATE player2 SET dropped = 1 WHERE no = ?1"

-- only of a migration
abbrev pub clear_players : List ℕ
clear_players = codes "DELETE FROM player"

abbrev pub set_version : List ℕ
set_version = codes "UPDATE event SET version = ?1"

abbrev pub set_score : List ℕ
set_score = codes "UPDATE pairing SET done = 1, x = ?3, y = ?4, d = ?5 WHERE round = ?1 AND tab = ?2"

abbrev pub insert_slot : List ℕ
insert_slot = codes "INSERT INTO bracket (stage, slot, a, b, done, x, y, d) VALUES (?1, ?2, ?3, ?4, ?5, ?6, ?7, ?8)"

abbrev pub set_slot_score : List ℕ
set_slot_score = codes "UPDATE bracket SET done = 1, x = ?3, y = ?4, d = ?5 WHERE stage = ?1 AND slot = ?2"

abbrev pub insert_tally : List ℕ
insert_tally = codes "INSERT INTO tally (no, points, rounds, gamepoints, games) VALUES (?1, ?2, ?3, ?4, ?5)"

abbrev pub set_tally : List ℕ
set_tally = codes "UPDATE tally SET points = ?2, rounds = ?3, gamepoints = ?4, games = ?5 WHERE no = ?1"

-- whether a table `event` can be read
abbrev pub find_event : List ℕ
find_event = codes "SELECT 1 FROM event"

abbrev pub read_event : List ℕ
read_event = codes "SELECT id, version, serial, name, rounds, cut, phase FROM event ORDER BY id"

abbrev pub read_players : List ℕ
read_players = codes "SELECT no, name, dropped, 0 AS joined FROM player ORDER BY no"

abbrev pub read_players2 : List ℕ
read_players2 = codes "SELECT no, name, dropped, joined FROM player2 ORDER BY no"

abbrev pub read_pairings : List ℕ
read_pairings = codes "SELECT round, tab, lo, hi, swapped, done, x, y, d FROM pairing ORDER BY round, tab"

abbrev pub read_bracket : List ℕ
read_bracket = codes "SELECT stage, slot, a, b, done, x, y, d FROM bracket ORDER BY stage, slot"

abbrev pub read_tallies : List ℕ
read_tallies = codes "SELECT no, points, rounds, gamepoints, games FROM tally ORDER BY no"

-- the match of a round and a table, with the names of its players; a bye has none for the missing one
abbrev pub read_slip : List ℕ
read_slip = codes "SELECT p.round, p.tab, p.lo, p.hi, p.swapped, p.done, p.x, p.y, p.d, l.name, h.name FROM pairing AS p LEFT JOIN player AS l ON l.no = p.lo LEFT JOIN player AS h ON h.no = p.hi WHERE p.round = ?1 AND p.tab = ?2"

abbrev pub read_slip2 : List ℕ
read_slip2 = codes "SELECT p.round, p.tab, p.lo, p.hi, p.swapped, p.done, p.x, p.y, p.d, l.name, h.name FROM pairing AS p LEFT JOIN player2 AS l ON l.no = p.lo LEFT JOIN player2 AS h ON h.no = p.hi WHERE p.round = ?1 AND p.tab = ?2"

-- the matches of two players, with the totals of the two; the plus has them read in the order of their key
abbrev pub read_meetings : List ℕ
read_meetings = codes "SELECT p.round, p.tab, p.done, l.no, l.points, l.rounds, l.gamepoints, l.games, h.no, h.points, h.rounds, h.gamepoints, h.games FROM pairing AS p LEFT JOIN tally AS l ON l.no = p.lo LEFT JOIN tally AS h ON h.no = p.hi WHERE +p.lo > 0 ORDER BY p.round, p.tab"

-- the statements that read players, in tables of a version
abbrev pub read_players_of : ℕ → List ℕ
read_players_of version = if version == 2 then read_players2 else read_players

abbrev pub read_slip_of : ℕ → List ℕ
read_slip_of version = if version == 2 then read_slip2 else read_slip
