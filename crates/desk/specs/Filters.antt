-- The desk's three command filters, and their words (request Thirteen of document 02). Definitions only.
use Rattle.std.specs.Prelude.{List, [], ◌∷◌, ◌++◌, ℕ, ◌+◌, ◌*◌, Float}
use Rattle.words.specs.Words.{float, words_of, bytes_of}
use Rattle.relay_math.specs.declared.Vec3.{Vec3}
use Rattle.relay_adrc.specs.declared.filter.CommandFilter.{CommandFilter}
use Rattle.relay_adrc.specs.Filter.{filter_new, filter_step, filter_reset}
use Rattle.desk.specs.declared.filters.Desk.{Desk}

-- ---- a filter is five words, in the order of the Rust's fields; three numbers of set-up make one; a stick is one word

abbrev pub filter_words : ℕ
filter_words = 5

abbrev pub new_words : ℕ
new_words = 3

abbrev pub desk_bytes : ℕ
desk_bytes = 4 * (3 * filter_words)

abbrev pub desk_setup_bytes : ℕ
desk_setup_bytes = 4 * (3 * new_words)

abbrev pub sticks_bytes : ℕ
sticks_bytes = 4 * 3

-- ---- read; every bit pattern is taken

unfoldable pub stick_filter_at : List ℕ → ℕ → CommandFilter
stick_filter_at b k =
    record {
      omega_n = float b k;
      max_mag = float b (k + 1);
      max_rate = float b (k + 2);
      y = float b (k + 3);
      yd = float b (k + 4);
    }

unfoldable pub desk_at : List ℕ → Desk
unfolding stick_filter_at
desk_at b = record { heading = stick_filter_at b 0; turn = stick_filter_at b filter_words; zoom = stick_filter_at b (filter_words + filter_words) }

-- ---- written

abbrev pub floats_of_filter : CommandFilter → List Float
floats_of_filter f = f.omega_n ∷ f.max_mag ∷ f.max_rate ∷ f.y ∷ f.yd ∷ []

abbrev pub floats_of_desk : Desk → List Float
floats_of_desk d = floats_of_filter d.heading ++ floats_of_filter d.turn ++ floats_of_filter d.zoom

unfoldable pub desk_of : Desk → List ℕ
desk_of d = bytes_of (words_of (floats_of_desk d))

-- ---- "omega_n and limits per stick from its set-up", mended as the Rust's `new` does

unfoldable pub new_at : List ℕ → ℕ → CommandFilter
new_at b k = filter_new (float b k) (float b (k + 1)) (float b (k + 2))

unfoldable pub desk_set_up : List ℕ → Desk
unfolding new_at
desk_set_up b = record { heading = new_at b 0; turn = new_at b new_words; zoom = new_at b (new_words + new_words) }

-- ---- "three sticks go through one `CommandFilter` each", "a centre button that resets the filters"

unfoldable pub desk_step : Desk → Vec3 → Float → Desk
desk_step d sticks dt =
    record {
      heading = (filter_step d.heading sticks.0 dt).filter;
      turn = (filter_step d.turn sticks.1 dt).filter;
      zoom = (filter_step d.zoom sticks.2 dt).filter;
    }

abbrev pub desk_centre : Desk → Desk
desk_centre d = record { heading = filter_reset d.heading; turn = filter_reset d.turn; zoom = filter_reset d.zoom }
