-- Something to be lent for each number of each call, computed: no set of `Numbers` has a number too many. Assumes nothing.
use Prim.Native.Nat.{ℕ}
use mathlib.Core.Path.{◌≡◌, refl, sym, ap, ◌∙◌}
use mathlib.Core.List.{List, [], ◌∷◌, map, map-map}
use native.Mathlib.Omega.{arith}
use lib.ListN.{length, get_or, drop, replicate}
use Rattle.spec.specs.declared.Answer.{Answer}
use Rattle.spec.specs.declared.Size.{Size}
use Rattle.spec.specs.Basics.{if, fuelled, Every, none, also, here}
use Rattle.spec.specs.Answers.{checked}
use Rattle.spec.specs.Sizes as Sizes
use Rattle.spec.specs.Pictures as Pictures
use Rattle.spec.specs.Maps.{remap, recount, miscounts, fresh_map, count_map}
use Rattle.spec.specs.Flags as Flags
use Rattle.spec.specs.Chunks as Chunks
use Rattle.spec.specs.Boards.{board, read, in_turn}
use Rattle.spec.specs.Writing as Writing
use Rattle.spec.specs.Feeds as Feeds
use Rattle.sprite.proofs.Numbers.{symbol_numbers, symbols_lent, symbol-given}
use Rattle.trust.specs.Numbers.{MapLent, WriteLent, ReadLent, Given, of_maps, of_reads, of_writes, of_chunks, of_walks, of_sizes}
use Rattle.trust.specs.Numbers.{start_answers, count_answers, read_answers, write_answers, own_of_walk, inside_walk, own_of_run, inside_run, own_of_step}
use Rattle.trust.specs.Numbers.{of_chunk, size_answers, paint_answers}

-- a number for each thing lent
given_by : {A : Type 0} {answers : A → List Answer} (l : List ℕ) (xs : List A)
    → map (λ x. map (λ a. a.number) (answers x)) xs ≡ map (λ e. e ∷ []) l → Every (Given answers) l
given_by [] xs p = none
given_by (e ∷ l) [] p = absurd (omega (arith, ap length p))
given_by {answers = answers} (e ∷ l) (x ∷ xs) p =
    let first : map (λ a. a.number) (answers x) ≡ e ∷ [] = ap (λ ys. get_or ys 0 []) p in
    also {x = e} (record { lent = x; gives = rw first here }) (given_by l xs (ap (drop 1) p))

-- Something for each number, on a board of one block that shows 9. The count of its record, and what is lent
small : Size
small = record { width = 4; height = 4 }

abbrev on_board : ℕ → List ℕ → ReadLent
on_board n s = record { size = small; bytes = s; board = board (replicate 16 9) (0 ∷ []) n; at = 0 }

-- a size that is not allowed; a picture that is too short
abbrev wrong_size : List ℕ → ReadLent
wrong_size s = record { size = record { width = 6; height = 4 }; bytes = s; board = board (replicate 24 9) (0 ∷ []) 1; at = 0 }

abbrev wrong_length : List ℕ → ReadLent
wrong_length s = record { size = small; bytes = s; board = board (replicate 15 9) (0 ∷ []) 1; at = 0 }

-- chunks that get 0; and 3 to 11, and 21 by a record that says that no block is unsettled, where one will be settled
skips : List ℕ
skips = 0xE1 ∷ 0 ∷ 0 ∷ 5 ∷ 0x00 ∷ []

abbrev refused_on : (List ℕ → List ℕ) → List ReadLent
refused_on put =
    on_board 1 (put []) ∷ on_board 1 (put (0xE1 ∷ 0 ∷ 0 ∷ 7 ∷ 0x60 ∷ 5 ∷ [])) ∷ on_board 1 (put (0xE1 ∷ 0 ∷ 0 ∷ 4 ∷ []))
    ∷ on_board 1 (put (0xE1 ∷ 0 ∷ 0 ∷ 5 ∷ 0x10 ∷ [])) ∷ on_board 1 (put (0xE1 ∷ 0 ∷ 0 ∷ 5 ∷ 0xF0 ∷ [])) ∷ on_board 1 (put (0xE1 ∷ 0 ∷ 0 ∷ 5 ∷ 0x20 ∷ []))
    ∷ on_board 1 (put (0xE1 ∷ 0 ∷ 0 ∷ 5 ∷ 0x01 ∷ [])) ∷ on_board 1 (put (0xE1 ∷ 0 ∷ 0 ∷ 6 ∷ 0x90 ∷ 0 ∷ []))
    ∷ on_board 1 (put (0xE1 ∷ 0 ∷ 0 ∷ 6 ∷ 0x00 ∷ 0xAA ∷ [])) ∷ on_board 0 (put (0xE1 ∷ 0 ∷ 0 ∷ 6 ∷ 0x60 ∷ 5 ∷ [])) ∷ []

-- a chunk as a run, and as a feed
abbrev in_run : List ℕ → List ℕ
in_run s = length s ∷ s

abbrev in_feed : List ℕ → List ℕ
in_feed s = 1 ∷ 1 ∷ in_run s

-- a walk's own: 0, 1, 2, 12 and 13
abbrev runs : List ReadLent
runs = on_board 1 [] ∷ wrong_size [] ∷ wrong_length [] ∷ on_board 1 (0x80 ∷ 0 ∷ []) ∷ on_board 1 (0x80 ∷ []) ∷ []

abbrev feeds : List ReadLent
feeds = on_board 1 (1 ∷ 1 ∷ []) ∷ on_board 1 (0x51 ∷ 1 ∷ []) ∷ on_board 1 (2 ∷ 1 ∷ []) ∷ on_board 1 (0x80 ∷ 0 ∷ []) ∷ on_board 1 [] ∷ []

abbrev maps_lent : List MapLent
maps_lent =
    record { size = small; map = 0 ∷ [] } ∷ record { size = record { width = 6; height = 4 }; map = 0 ∷ [] } ∷ record { size = small; map = [] } ∷ []

abbrev to_write : Size → ℕ → ℕ → WriteLent
to_write z n room = record { size = z; old = replicate n 0; new = replicate n 5; output = replicate room 9 }

abbrev writes_lent : List WriteLent
writes_lent = to_write small 16 6 ∷ to_write (record { width = 6; height = 4 }) 24 6 ∷ to_write small 15 6 ∷ to_write small 16 5 ∷ []

pub starts-given : Every (Given start_answers) of_maps
unfolding small if checked Sizes.side Sizes.fault fresh_map
starts-given = given_by of_maps maps_lent refl

pub counts-given : Every (Given count_answers) of_maps
unfolding small if checked Sizes.side Sizes.fault count_map
counts-given = given_by of_maps maps_lent refl

pub reads-given : Every (Given read_answers) of_reads
unfolding small skips if fuelled checked Sizes.side Sizes.fault Pictures.place Pictures.block_of Pictures.pixel_of Pictures.paint remap recount miscounts
    Flags.flags Chunks.put Chunks.missing Chunks.body Chunks.count_at Chunks.body_at Chunks.opcode Chunks.blocks_by Chunks.extend Chunks.stored Chunks.step
    Chunks.padding Chunks.finish Chunks.loop Chunks.decode read in_turn
reads-given = given_by of_reads (on_board 1 skips ∷ wrong_size skips ∷ wrong_length skips ∷ refused_on (λ s. s)) refl

pub writes-given : Every (Given write_answers) of_writes
unfolding small if fuelled checked Sizes.side Sizes.fault Pictures.place Pictures.shown Flags.digits Flags.flag_bytes Writing.insert Writing.colours
    Writing.entries Writing.entry_of Writing.tabled Writing.single Writing.counting Writing.plain Writing.opcode_for Writing.alike Writing.opcodes
    Writing.encode Writing.difference Writing.differences Writing.emit Writing.write
writes-given = given_by of_writes writes_lent refl

pub walks-given : Every (Given own_of_walk) of_walks
unfolding small skips if fuelled checked Sizes.side Sizes.fault Pictures.place Pictures.block_of Pictures.pixel_of Pictures.paint remap recount miscounts
    Flags.flags Chunks.put Chunks.missing Chunks.body Chunks.count_at Chunks.body_at Chunks.opcode Chunks.blocks_by Chunks.extend Chunks.stored Chunks.step
    Chunks.padding Chunks.finish Chunks.loop Chunks.decode read in_turn Feeds.groups Feeds.varint_at Feeds.next_at Feeds.chunks_from
    Feeds.size_numbers Feeds.feed_of Feeds.walk
walks-given = given_by of_walks feeds refl

pub inside-walks-given : Every (Given inside_walk) of_chunks
unfolding small skips if fuelled checked Sizes.side Sizes.fault Pictures.place Pictures.block_of Pictures.pixel_of Pictures.paint remap recount miscounts
    Flags.flags Chunks.put Chunks.missing Chunks.body Chunks.count_at Chunks.body_at Chunks.opcode Chunks.blocks_by Chunks.extend Chunks.stored Chunks.step
    Chunks.padding Chunks.finish Chunks.loop Chunks.decode read in_turn Feeds.groups Feeds.varint_at Feeds.next_at Feeds.chunks_from
    Feeds.size_numbers Feeds.feed_of Feeds.walk
inside-walks-given = given_by of_chunks (on_board 1 (in_feed skips) ∷ refused_on in_feed) refl

pub runs-given : Every (Given own_of_run) of_walks
unfolding small skips if fuelled checked Sizes.side Sizes.fault Pictures.place Pictures.block_of Pictures.pixel_of Pictures.paint remap recount miscounts
    Flags.flags Chunks.put Chunks.missing Chunks.body Chunks.count_at Chunks.body_at Chunks.opcode Chunks.blocks_by Chunks.extend Chunks.stored Chunks.step
    Chunks.padding Chunks.finish Chunks.loop Chunks.decode read in_turn Feeds.groups Feeds.varint_at Feeds.next_at Feeds.chunks_from
    Feeds.size_numbers Feeds.feed_of Feeds.walk_run
runs-given = given_by of_walks runs refl

pub inside-runs-given : Every (Given inside_run) of_chunks
unfolding small skips if fuelled checked Sizes.side Sizes.fault Pictures.place Pictures.block_of Pictures.pixel_of Pictures.paint remap recount miscounts
    Flags.flags Chunks.put Chunks.missing Chunks.body Chunks.count_at Chunks.body_at Chunks.opcode Chunks.blocks_by Chunks.extend Chunks.stored Chunks.step
    Chunks.padding Chunks.finish Chunks.loop Chunks.decode read in_turn Feeds.groups Feeds.varint_at Feeds.next_at Feeds.chunks_from
    Feeds.size_numbers Feeds.feed_of Feeds.walk_run
inside-runs-given = given_by of_chunks (on_board 1 (in_run skips) ∷ refused_on in_run) refl

pub steps-given : Every (Given own_of_step) of_walks
unfolding small skips if fuelled checked Sizes.side Sizes.fault Pictures.place Pictures.block_of Pictures.pixel_of Pictures.paint remap recount miscounts
    Flags.flags Chunks.put Chunks.missing Chunks.body Chunks.count_at Chunks.body_at Chunks.opcode Chunks.blocks_by Chunks.extend Chunks.stored Chunks.step
    Chunks.padding Chunks.finish Chunks.loop Chunks.decode read in_turn Feeds.groups Feeds.varint_at Feeds.next_at Feeds.chunks_from
    Feeds.size_numbers Feeds.feed_of Feeds.walk_step
steps-given = given_by of_walks runs refl

pub chunks-given : Every (Given of_chunk) of_chunks
unfolding small skips if fuelled checked Sizes.side Sizes.fault Pictures.place Pictures.block_of Pictures.pixel_of Pictures.paint remap recount miscounts
    Flags.flags Chunks.put Chunks.missing Chunks.body Chunks.count_at Chunks.body_at Chunks.opcode Chunks.blocks_by Chunks.extend Chunks.stored Chunks.step
    Chunks.padding Chunks.finish Chunks.loop Chunks.decode read in_turn Feeds.groups Feeds.varint_at Feeds.next_at Feeds.chunks_from
    Feeds.size_numbers Feeds.feed_of Feeds.walk_step
chunks-given = given_by of_chunks (on_board 1 (in_run skips) ∷ refused_on in_run) refl

pub sizes-given : Every (Given size_answers) of_sizes
unfolding if Sizes.side Feeds.groups Feeds.varint_at Feeds.size_numbers Feeds.feed_size
sizes-given = given_by of_sizes ((1 ∷ 1 ∷ []) ∷ (0x51 ∷ 1 ∷ []) ∷ (0x80 ∷ 0 ∷ []) ∷ [] ∷ []) refl

pub symbols-given : Every (Given paint_answers) symbol_numbers
symbols-given = given_by symbol_numbers symbols_lent (sym (map-map _ _ symbols_lent) ∙ ap (map (λ e. e ∷ [])) symbol-given)
