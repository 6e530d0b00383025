pub mod InHand
