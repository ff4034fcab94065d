pub mod Archives
